-- Every survey comes to some chart: the cells that chains reach are found round by round, each round following what the one before found.
use Rattle.std.proofs.Common.{◌≡◌, ℕ, zero, suc, ◌+◌, ◌<◌, ◌≤◌, Bool, true, false, cond, not, ◌&&◌, ◌||◌, T, ltb, leb, ◌≢◌, ◌⊎◌, List, [], ◌∷◌, length, get_or, take, sym, refl, subst, inl, inr, zero-le, arith, le→leb, lt→ltb}
use native.Mathlib.Decide.{ℕ_discrete}
use Rattle.words.specs.declared.permission.Permission.{Permission}
use Rattle.words.specs.declared.permission.Permission.TheVariants.{O, RO, RW, RWL, RX, E, RWX, RWLX}
use Rattle.words.specs.Permissions.{writes}
use Rattle.words.specs.Word.{Cap, Word, integer, capability, at, Covers, covers}
use Rattle.model.specs.Numbers.{one_if}
use Rattle.model.specs.Survey.{Held, in_hand, in_cell, Reached, Writable, Mark, writable, reached, apart, count_from}
use Rattle.model.specs.Calls.{ChartsExist}
use Rattle.model.proofs.Rows.{exists_at, and_left, and_right, and_both, covered}

-- ── Tests ──

or_left : (a b : Bool) → T a → T (a || b)
or_left true b t = tt
or_left false b t = absurd t

or_right : (a b : Bool) → T b → T (a || b)
or_right true b t = tt
or_right false b t = t

or_cases : (a b : Bool) → T (a || b) → T a ⊎ T b
or_cases true b t = inl tt
or_cases false b t = inr t

not_both : (b : Bool) → T (not b) → ¬ T b
not_both true t u = t
not_both false t u = u

-- ── Numbers below n that pass a test ──

abbrev some_below : ℕ → (ℕ → Bool) → Bool
some_below zero p = false
some_below (suc n) p = p n || some_below n p

some_found : (n : ℕ) (p : ℕ → Bool) (a : ℕ) → a < n → T (p a) → T (some_below n p)
some_found zero p a h t = absurd (omega arith)
some_found (suc n) p a h t = elim (ℕ_discrete a n) [
  | yes same ↦ or_left (p n) (some_below n p) (subst (λ (x : ℕ). T (p x)) same t)
  | no other ↦ or_right (p n) (some_below n p) (some_found n p a (omega arith) t)
]

found_some : (n : ℕ) (p : ℕ → Bool) → T (some_below n p) → (a : ℕ) × (a < n) × T (p a)
found_some zero p t = absurd t
found_some (suc n) p t = elim (or_cases (p n) (some_below n p) t) [
  | inl here ↦ (n, omega arith, here)
  | inr below ↦ let f = found_some n p below in (f.0, omega (arith, f.1), f.2)
]

abbrev count_below : ℕ → (ℕ → Bool) → ℕ
count_below zero p = 0
count_below (suc n) p = one_if (p n) + count_below n p

one_at_most : (b : Bool) → one_if b ≤ 1
one_at_most true = omega arith
one_at_most false = omega arith

one_mono : (b c : Bool) → (T b → T c) → one_if b ≤ one_if c
one_mono true true h = omega arith
one_mono true false h = absurd (h tt)
one_mono false c h = zero-le

one_more : (b c : Bool) → ¬ T b → T c → one_if b < one_if c
one_more true c h t = absurd (h tt)
one_more false true h t = omega arith
one_more false false h t = absurd t

count_at_most : (n : ℕ) (p : ℕ → Bool) → count_below n p ≤ n
count_at_most zero p = zero-le
count_at_most (suc n) p = omega (arith, one_at_most (p n), count_at_most n p)

module _ (p q : ℕ → Bool) where
  count_mono : (n : ℕ) → ((a : ℕ) → a < n → T (p a) → T (q a)) → count_below n p ≤ count_below n q
  count_mono zero h = zero-le
  count_mono (suc n) h = omega (arith, one_mono (p n) (q n) (h n (omega arith)), count_mono n (λ a k. h a (omega arith)))

  count_more : (n : ℕ) → ((a : ℕ) → a < n → T (p a) → T (q a)) → (a : ℕ) → a < n → ¬ T (p a) → T (q a) → count_below n p < count_below n q
  count_more zero h a k no_p yes_q = absurd (omega arith)
  count_more (suc n) h a k no_p yes_q = elim (ℕ_discrete a n) [
    | yes same ↦
        let more = one_more (p n) (q n) (subst (λ (x : ℕ). ¬ T (p x)) same no_p) (subst (λ (x : ℕ). T (q x)) same yes_q) in
        omega (arith, more, count_mono n (λ b l. h b (omega arith)))
    | no other ↦
        let more = count_more n (λ b l. h b (omega arith)) a (omega arith) no_p yes_q in
        omega (arith, more, one_mono (p n) (q n) (h n (omega arith)))
  ]

-- ── Capabilities that lead on ──

abbrev other : Permission → Bool
other O = false
other RO = true
other RW = true
other RWL = true
other RX = true
other E = true
other RWX = true
other RWLX = true

other_not_O : (p : Permission) → T (other p) → p ≢ O
other_not_O p t e = subst (λ (x : Permission). T (other x)) e t

not_O_other : (p : Permission) → p ≢ O → T (other p)
not_O_other O h = absurd (h refl)
not_O_other RO h = tt
not_O_other RW h = tt
not_O_other RWL h = tt
not_O_other RX h = tt
not_O_other E h = tt
not_O_other RWX h = tt
not_O_other RWLX h = tt

-- the word is a capability whose permission passes, and that covers the address
abbrev leads_to : (Permission → Bool) → ℕ → Word → Bool
leads_to ok a (integer z) = false
leads_to ok a (capability c) = ok c.permission && covers c a

leads : (ok : Permission → Bool) (a : ℕ) (c : Cap) (w : Word) → w ≡ capability c → T (ok c.permission) → Covers c a → T (leads_to ok a w)
leads ok a c w e passes within =
    subst (λ (x : Word). T (leads_to ok a x)) (sym e)
    (and_both (ok c.permission) (covers c a) passes (and_both (leb c.base a) (ltb a c.end) (le→leb c.base a within.0) (lt→ltb a c.end within.1)))

module _ (hand cells : List Word) where
  -- some capability of the hand, or of a cell of the set, passes and covers the address
  abbrev through : (Permission → Bool) → (ℕ → Bool) → ℕ → Bool
  through ok set a =
      some_below (length hand) (λ i. leads_to ok a (at hand i)) || some_below (length cells) (λ b. set b && leads_to ok a (at cells b))

  -- every cell of the set is reached; what the set leads to, is in it
  abbrev Sound : (ℕ → Bool) → Type 0
  Sound set = (a : ℕ) → a < length cells → T (set a) → Reached hand cells a

  abbrev Closed : (ℕ → Bool) → Type 0
  Closed set = (a : ℕ) → a < length cells → T (through other set a) → T (set a)

  -- ── What a sound set leads to, a held capability covers ──

  record Behind (ok : Permission → Bool) (a : ℕ) : Type 0 where
    via : Cap
    held : Held hand cells via
    passes : T (ok via.permission)
    within : Covers via a

  behind_word : (ok : Permission → Bool) (a : ℕ) (w : Word) → ((c : Cap) → w ≡ capability c → Held hand cells c) → T (leads_to ok a w) → Behind ok a
  behind_word ok a (integer z) held t = absurd t
  behind_word ok a (capability c) held t = record {
    via = c;
    held = held c refl;
    passes = and_left (ok c.permission) (covers c a) t;
    within = covered c a (and_right (ok c.permission) (covers c a) t);
  }

  module _ (set : ℕ → Bool) (sound : Sound set) where
    behind : (ok : Permission → Bool) (a : ℕ) → T (through ok set a) → Behind ok a
    behind ok a t = elim (or_cases (some_below (length hand) (λ i. leads_to ok a (at hand i))) (some_below (length cells) (λ b. set b && leads_to ok a (at cells b))) t) [
      | inl u ↦
          let f = found_some (length hand) (λ i. leads_to ok a (at hand i)) u in
          behind_word ok a (at hand f.0) (λ c e. in_hand f.0 e) f.2
      | inr u ↦
          let f = found_some (length cells) (λ b. set b && leads_to ok a (at cells b)) u in
          let r : Reached hand cells f.0 = sound f.0 f.1 (and_left (set f.0) (leads_to ok a (at cells f.0)) f.2) in
          behind_word ok a (at cells f.0) (λ c e. in_cell f.0 r.held r.not_O r.covered e) (and_right (set f.0) (leads_to ok a (at cells f.0)) f.2)
    ]

    reached_through : (a : ℕ) → a < length cells → T (through other set a) → Reached hand cells a
    reached_through a h t =
        let b : Behind other a = behind other a t in
        record { via = b.via; held = b.held; not_O = other_not_O b.via.permission b.passes; covered = b.within; exists = h }

    writable_through : (a : ℕ) → a < length cells → T (through writes set a) → Writable hand cells a
    writable_through a h t =
        let b : Behind writes a = behind writes a t in
        record { via = b.via; held = b.held; can_write = b.passes; covered = b.within; exists = h }

  -- ── What a held capability covers, a closed set leads to ──

  data From (set : ℕ → Bool) (c : Cap) : Type 0 where
    from_hand : (i : ℕ) → at hand i ≡ capability c → From set c
    from_cell : (b : ℕ) → T (set b) → at cells b ≡ capability c → From set c

  from_through : (set : ℕ → Bool) (ok : Permission → Bool) (a : ℕ) (c : Cap) → From set c → T (ok c.permission) → Covers c a → T (through ok set a)
  from_through set ok a c (from_hand i e) passes within =
      or_left (some_below (length hand) (λ i. leads_to ok a (at hand i))) (some_below (length cells) (λ b. set b && leads_to ok a (at cells b)))
      (some_found (length hand) (λ i. leads_to ok a (at hand i)) i (exists_at hand i e) (leads ok a c (at hand i) e passes within))
  from_through set ok a c (from_cell b t e) passes within =
      or_right (some_below (length hand) (λ i. leads_to ok a (at hand i))) (some_below (length cells) (λ b. set b && leads_to ok a (at cells b)))
      (some_found (length cells) (λ b. set b && leads_to ok a (at cells b)) b (exists_at cells b e) (and_both (set b) (leads_to ok a (at cells b)) t (leads ok a c (at cells b) e passes within)))

  held_from : (set : ℕ → Bool) → Closed set → {c : Cap} → Held hand cells c → From set c
  held_from set closed (in_hand i e) = from_hand i e
  held_from set closed (in_cell {via = via} a h not_O within e) =
      from_cell a (closed a (exists_at cells a e) (from_through set other a via (held_from set closed h) (not_O_other via.permission not_O) within)) e

  -- ── A set that is both ──

  record Found : Type 0 where
    set : ℕ → Bool
    sound : Sound set
    closed : Closed set

  -- the set leads to all that is in it
  abbrev Grows : (ℕ → Bool) → Type 0
  Grows set = (a : ℕ) → a < length cells → T (set a) → T (through other set a)

  grows_on : (set : ℕ → Bool) → Grows set → Grows (through other set)
  grows_on set grows a h t = elim (or_cases (some_below (length hand) (λ i. leads_to other a (at hand i))) (some_below (length cells) (λ b. set b && leads_to other a (at cells b))) t) [
    | inl u ↦ or_left (some_below (length hand) (λ i. leads_to other a (at hand i))) (some_below (length cells) (λ b. through other set b && leads_to other a (at cells b))) u
    | inr u ↦
        let f = found_some (length cells) (λ b. set b && leads_to other a (at cells b)) u in
        or_right (some_below (length hand) (λ i. leads_to other a (at hand i))) (some_below (length cells) (λ b. through other set b && leads_to other a (at cells b)))
        (some_found (length cells) (λ b. through other set b && leads_to other a (at cells b)) f.0 f.1
        (and_both (through other set f.0) (leads_to other a (at cells f.0))
        (grows f.0 f.1 (and_left (set f.0) (leads_to other a (at cells f.0)) f.2))
        (and_right (set f.0) (leads_to other a (at cells f.0)) f.2)))
  ]

  decided : (b : Bool) → T b ⊎ ¬ T b
  decided true = inl tt
  decided false = inr (λ t. t)

  closed_or_more : (set : ℕ → Bool) → Grows set → Closed set ⊎ (count_below (length cells) set < count_below (length cells) (through other set))
  closed_or_more set grows = elim (decided (some_below (length cells) (λ a. through other set a && not (set a)))) [
    | inl t ↦
        let f = found_some (length cells) (λ a. through other set a && not (set a)) t in
        inr (count_more set (through other set) (length cells) grows f.0 f.1
        (not_both (set f.0) (and_right (through other set f.0) (not (set f.0)) f.2))
        (and_left (through other set f.0) (not (set f.0)) f.2))
    | inr none ↦ inl (λ a h t. elim (decided (set a)) [
      | inl yes-set ↦ yes-set
      | inr no-set ↦ absurd (none (some_found (length cells) (λ a. through other set a && not (set a)) a h (and_both (through other set a) (not (set a)) t (negated (set a) no-set))))
    ])
  ]
    where
      negated : (b : Bool) → ¬ T b → T (not b)
      negated true h = absurd (h tt)
      negated false h = tt

  find : (fuel : ℕ) (set : ℕ → Bool) → Sound set → Grows set → length cells ≤ count_below (length cells) set + fuel → Found
  find zero set sound grows h = elim (closed_or_more set grows) [
    | inl closed ↦ record { set = set; sound = sound; closed = closed }
    | inr more ↦ absurd (omega (arith, more, h, count_at_most (length cells) (through other set)))
  ]
  find (suc fuel) set sound grows h = elim (closed_or_more set grows) [
    | inl closed ↦ record { set = set; sound = sound; closed = closed }
    | inr more ↦ find fuel (through other set) (reached_through set sound) (grows_on set grows) (omega (arith, more, h))
  ]

  found : Found
  found = find (length cells) (λ a. false) (λ a h t. absurd t) (λ a h t. absurd t) (omega arith)

  -- ── The marks ──

  marked_as : (set : ℕ → Bool) (a : ℕ) → Sound set → Closed set → a < length cells → (w r : Bool) → through writes set a ≡ w → through other set a ≡ r → Mark hand cells a (cond w 2 (cond r 1 0))
  marked_as set a sound closed h true r p q = writable (writable_through set sound a h (subst T (sym p) tt))
  marked_as set a sound closed h false true p q =
      reached (λ w. subst T p (from_through set writes a w.via (held_from set closed w.held) w.can_write w.covered))
      (reached_through set sound a h (subst T (sym q) tt))
  marked_as set a sound closed h false false p q =
      apart (λ w. subst T p (from_through set writes a w.via (held_from set closed w.held) w.can_write w.covered))
      (λ r. subst T q (from_through set other a r.via (held_from set closed r.held) (not_O_other r.via.permission r.not_O) r.covered))

-- ── The chart ──

-- the first n bytes by a rule, the others as they are
abbrev fill : (ℕ → ℕ) → ℕ → List ℕ → List ℕ
fill f zero chart = chart
fill f (suc n) [] = []
fill f (suc n) (x ∷ xs) = f 0 ∷ fill (λ a. f (suc a)) n xs

fill_length : (f : ℕ → ℕ) (n : ℕ) (chart : List ℕ) → length (fill f n chart) ≡ length chart
fill_length f zero chart = refl
fill_length f (suc n) [] = refl
fill_length f (suc n) (x ∷ xs) = λ i. suc (fill_length (λ a. f (suc a)) n xs i)

fill_below : (f : ℕ → ℕ) (n : ℕ) (chart : List ℕ) (a : ℕ) → a < n → n ≤ length chart → get_or (fill f n chart) a 0 ≡ f a
fill_below f zero chart a h k = absurd (omega arith)
fill_below f (suc n) [] a h k = absurd (omega arith)
fill_below f (suc n) (x ∷ xs) zero h k = refl
fill_below f (suc n) (x ∷ xs) (suc a) h k = fill_below (λ b. f (suc b)) n xs a (omega arith) (omega arith)

fill_beyond : (f : ℕ → ℕ) (n : ℕ) (chart : List ℕ) (a : ℕ) → n ≤ a → get_or (fill f n chart) a 0 ≡ get_or chart a 0
fill_beyond f zero chart a h = refl
fill_beyond f (suc n) [] a h = refl
fill_beyond f (suc n) (x ∷ xs) zero h = absurd (omega arith)
fill_beyond f (suc n) (x ∷ xs) (suc a) h = fill_beyond (λ b. f (suc b)) n xs a (omega arith)

pub charts_exist : ChartsExist
charts_exist hand cells chart enough =
    let s : Found hand cells = found hand cells in
    let mark : ℕ → ℕ = λ a. cond (through hand cells writes s.set a) 2 (cond (through hand cells other s.set a) 1 0) in
    record {
      after = fill mark (length cells) chart;
      marked = count_from 1 (take (length cells) (fill mark (length cells) chart));
      marked_2 = count_from 2 (take (length cells) (fill mark (length cells) chart));
      charted = record {
        as_long = fill_length mark (length cells) chart;
        marks = λ a h. subst (Mark hand cells a) (sym (fill_below mark (length cells) chart a h enough)) (marked_as hand cells s.set a s.sound s.closed h (through hand cells writes s.set a) (through hand cells other s.set a) refl refl);
        rest = λ a h. fill_beyond mark (length cells) chart a h;
        count = refl;
        count_2 = refl;
      };
    }
