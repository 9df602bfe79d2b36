-- From marks that are complete to a chart.
use Rattle.std.proofs.Common.{rules, ◌≡◌, ℕ, ◌+◌, ◌-◌, ◌<◌, ◌≤◌, T, ◌≢◌, List, ◌++◌, length, get_or, take, drop, sym, refl, ap, ◌∙◌, subst, arith}
use Rattle.std.proofs.lemmas.List.{get_or_append_left, get_or-append_right, get_or-drop, length-append, length-drop, take_at}
use Rattle.words.specs.declared.permission.Permission.{Permission}
use Rattle.words.specs.declared.permission.Permission.TheVariants.{O, RO, RW, RWL, RX, E, RWX, RWLX}
use Rattle.words.specs.Permissions.{writes}
use Rattle.words.specs.Word.{Cap, Word, Covers}
use Rattle.model.specs.Survey.{Held, Charted, count_from}
use Rattle.model.proofs.Rows.{exists_at}
use Rattle.model.proofs.Surveying as model
use Rattle.survey.specs.Levels.{permission_level}
use Rattle.survey.specs.Progress.{Sound, unmarked, marked, Painted, Complete}

at_least_1 : (q : Permission) → q ≢ O → 1 ≤ permission_level q
at_least_1 q h = search (rules, arith)

at_least_2 : (q : Permission) → T (writes q) → 2 ≤ permission_level q
at_least_2 q h = search (rules, arith)

-- the mark that a held capability accounts for is one that the rules account for
module _ (hand cells : List Word) (a : ℕ) (c : Cap) (held : Held hand cells c) (within : Covers c a) (h : a < length cells) where
  reached : (q : Permission) → c.permission ≡ q → 1 ≤ permission_level q → model.Sound hand cells a 1
  reached q e l = model.marked (record { via = c; held = held; not_O = λ o. omega (arith, ap permission_level (sym e ∙ o)); covered = within; exists = h })

  writable : (q : Permission) → c.permission ≡ q → T (writes q) → model.Sound hand cells a 2
  writable q e w = model.marked_2 (record { via = c; held = held; can_write = subst (λ (p : Permission). T (writes p)) (sym e) w; covered = within; exists = h })

  by_level : (q : Permission) → c.permission ≡ q → model.Sound hand cells a (permission_level q)
  by_level O e = model.unmarked
  by_level RO e = reached RO e (omega arith)
  by_level RW e = writable RW e tt
  by_level RWL e = writable RWL e tt
  by_level RX e = reached RX e (omega arith)
  by_level E e = reached E e (omega arith)
  by_level RWX e = writable RWX e tt
  by_level RWLX e = writable RWLX e tt

sound : (hand cells : List Word) (a m : ℕ) → Sound hand cells a m → model.Sound hand cells a m
sound hand cells a m unmarked = model.unmarked
sound hand cells a m (marked {c = c} held within h) = by_level hand cells a c held within h c.permission refl

-- a chart that begins with the marks, and goes on as before
module _ (hand cells : List Word) (before marks chart : List ℕ) (r : Complete hand cells marks) (enough : length cells ≤ length before) (is : chart ≡ marks ++ drop (length cells) before) where
  inside : (a : ℕ) → a < length cells → get_or chart a 0 ≡ get_or marks a 0
  inside a h = ap (λ (xs : List ℕ). get_or xs a 0) is ∙ get_or_append_left marks (drop (length cells) before) 0 a (omega (arith, r.as_long))

  outside : (a : ℕ) → length cells ≤ a → get_or chart a 0 ≡ get_or before a 0
  outside a h =
      let back : length cells + (a - length cells) ≡ a = omega arith in
      ap (λ (xs : List ℕ). get_or xs a 0) is ∙ get_or-append_right marks (drop (length cells) before) (length cells) a 0 r.as_long h ∙
      get_or-drop (length cells) before (a - length cells) 0 ∙ ap (λ (j : ℕ). get_or before j 0) back

  as_long : length chart ≡ length before
  as_long = ap (λ (xs : List ℕ). length xs) is ∙ simp (length-append, length-drop) (omega (arith, r.as_long))

  painted : (c : Cap) → Painted marks c → model.Painted chart (length cells) c
  painted c q = record {
    marked = λ not_O a within h. omega (arith, inside a h, q a within (omega (arith, r.as_long)), at_least_1 c.permission not_O);
    marked_2 = λ can a within h. omega (arith, inside a h, q a within (omega (arith, r.as_long)), at_least_2 c.permission can);
  }

  closed : model.Closed hand cells chart
  closed = record {
    from_hand = λ i c e. painted c (r.from_hand i c e);
    from_cells = λ a c g e. painted c (r.from_cells a c (omega (arith, inside a (exists_at cells a e))) e);
  }

  front : take (length cells) chart ≡ marks
  front = ap (λ (xs : List ℕ). take (length cells) xs) is ∙ take_at marks (drop (length cells) before) (length cells) r.as_long

  pub charted : (m m_2 : ℕ) → m ≡ count_from 1 marks → m_2 ≡ count_from 2 marks → Charted hand cells before chart m m_2
  charted m m_2 e e_2 =
      let all : Charted hand cells before chart (count_from 1 (take (length cells) chart)) (count_from 2 (take (length cells) chart)) =
      model.charted hand cells chart closed before as_long outside
      (λ a h. subst (λ (n : ℕ). model.Sound hand cells a n) (sym (inside a h)) (sound hand cells a (get_or marks a 0) (r.sound a)))
      in record {
        as_long = all.as_long;
        marks = all.marks;
        rest = all.rest;
        count = e ∙ ap (λ (xs : List ℕ). count_from 1 xs) (sym front);
        count_2 = e_2 ∙ ap (λ (xs : List ℕ). count_from 2 xs) (sym front);
      }
