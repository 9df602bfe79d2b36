-- Raising marks: nothing to do, one cell, and one range after another.
use Rattle.std.proofs.Common.{◌≡◌, ◌==◌, ℕ, cond, ◌+◌, ◌<◌, ◌≤◌, ◌⊎◌, List, [], ◌∷◌, ◌++◌, length, get_or, set, sym, refl, ap, ◌∙◌, subst, inl, inr, arith, length-append}
use Rattle.std.proofs.lemmas.List.{get_or-set_same, get_or-set_other, length-set}
use Rattle.std.proofs.lemmas.List.Sums.{sum_by-set}
use Rattle.std.proofs.lemmas.Bool.{cases_eq, cases_lt}
use Rattle.std.proofs.lemmas.Bool.Decides.{nat_tests}
use Rattle.std.proofs.lemmas.Grind.{common_steps}
use Rattle.survey.specs.Pending.{Listed}
use Rattle.survey.specs.Marking.{blanks, Raised}
use Rattle.survey.proofs.Listing.{kept, here as there, only as there_only}

-- what a mark adds to the number of cells that are not marked
abbrev blank : ℕ → ℕ
blank mark = cond (mark == 0) 1 0

marked : (n : ℕ) → 1 ≤ n → blank n ≡ 0
marked n h = grind (arith, nat_tests)

-- a cell without a mark leaves room for one more
pub room_left : (marks p : List ℕ) (a : ℕ) → length p + blanks marks ≤ length marks → length marks ≤ 65536 → a < length marks → get_or marks a 0 ≡ 0 → length p < 65536
room_left marks p a room small h e =
    let b : blank (get_or marks a 0) ≡ 1 = ap blank e in
    omega (arith, sum_by-set blank marks a 1 0 h)

-- nothing changes where all of the range is marked already
pub nothing_raised : (k from to : ℕ) (marks p : List ℕ) → ((a : ℕ) → from ≤ a → a < to → a < length marks → k ≤ get_or marks a 0) → Raised k from to marks p marks p
nothing_raised k from to marks p h = record {
  as_long = refl;
  grows = λ a. omega arith;
  raised = h;
  only = λ a. inl refl;
  kept = λ a l. l;
  fresh = λ a e g. absurd (omega arith);
  listed = λ a l. inl l;
  balance = refl;
}

-- one cell
module _ (k a : ℕ) (marks : List ℕ) (h : a < length marks) (low : get_or marks a 0 < k) where
  here : get_or (set marks a k) a 0 ≡ k
  here = get_or-set_same marks a k 0 h

  grows : (x : ℕ) → get_or marks x 0 ≤ get_or (set marks a k) x 0
  grows x = grind (arith, common_steps, here)

  raised : (x : ℕ) → a ≤ x → x < a + 1 → x < length marks → k ≤ get_or (set marks a k) x 0
  raised x l g i = grind (arith, common_steps, here)

  only : (x : ℕ) → (get_or (set marks a k) x 0 ≡ get_or marks x 0) ⊎ ((a ≤ x) × (x < a + 1) × (x < length marks) × (get_or (set marks a k) x 0 ≡ k))
  only x = elim (cases_eq x a) [
    | inl e ↦ inr (omega arith, omega arith, omega arith, ap (λ (y : ℕ). get_or (set marks a k) y 0) e ∙ here)
    | inr ne ↦ inl (get_or-set_other marks a x k 0 ne)
  ]

  pub blank_raised : (p : List ℕ) → get_or marks a 0 ≡ 0 → Raised k a (a + 1) marks p (set marks a k) (p ++ a ∷ [])
  blank_raised p e = record {
    as_long = length-set marks a k;
    grows = grows;
    raised = raised;
    only = only;
    kept = kept p a;
    fresh = λ x z m. elim (cases_eq x a) [
      | inl same ↦ subst (λ (y : ℕ). Listed (p ++ a ∷ []) y) (sym same) (there p a)
      | inr ne ↦ absurd (omega (arith, get_or-set_other marks a x k 0 ne))
    ];
    listed = λ x l. elim (there_only p a x l) [
      | inl same ↦ inr (subst (λ (y : ℕ). 1 ≤ get_or (set marks a k) y 0) (sym same) (omega (arith, here)))
      | inr l' ↦ inl l'
    ];
    balance =
        let b : blank (get_or marks a 0) ≡ 1 = ap blank e in
        omega (arith, length-append p (a ∷ []), sum_by-set blank marks a k 0 h, marked k (omega arith));
  }

  pub marked_raised : (p : List ℕ) → 1 ≤ get_or marks a 0 → Raised k a (a + 1) marks p (set marks a k) p
  marked_raised p m = record {
    as_long = length-set marks a k;
    grows = grows;
    raised = raised;
    only = only;
    kept = λ x l. l;
    fresh = λ x z g. elim (cases_eq x a) [
      | inl same ↦ absurd (omega (arith, ap (λ (y : ℕ). get_or marks y 0) same))
      | inr ne ↦ absurd (omega (arith, get_or-set_other marks a x k 0 ne))
    ];
    listed = λ x l. inl l;
    balance = omega (arith, sum_by-set blank marks a k 0 h, marked k (omega arith), marked (get_or marks a 0) m);
  }

-- one range, and then the next
module _ {k from mid to : ℕ} {m m' m'' p p' p'' : List ℕ} (s : Raised k from mid m p m' p') (t : Raised k mid to m' p' m'' p'') (le : from ≤ mid) (le' : mid ≤ to) where
  pub and_then : Raised k from to m p m'' p''
  and_then = record {
    as_long = t.as_long ∙ s.as_long;
    grows = λ a. omega (arith, s.grows a, t.grows a);
    raised = λ a l g i. elim (cases_lt a mid) [
      | inl before ↦ omega (arith, s.raised a l before i, t.grows a)
      | inr after ↦ t.raised a after g (omega (arith, s.as_long))
    ];
    only = λ a. elim (t.only a) [
      | inl same ↦ elim (s.only a) [
        | inl same' ↦ inl (same ∙ same')
        | inr there ↦ inr (there.0, omega (arith, there.1), there.2, same ∙ there.3)
      ]
      | inr there ↦ inr (omega (arith, there.0), there.1, omega (arith, there.2, s.as_long), there.3)
    ];
    kept = λ a l. t.kept a (s.kept a l);
    fresh = λ a e g. elim (cases_eq (get_or m' a 0) 0) [
      | inl none ↦ t.fresh a none g
      | inr some ↦ t.kept a (s.fresh a e (omega arith))
    ];
    listed = λ a l. elim (t.listed a l) [
      | inl l' ↦ elim (s.listed a l') [ inl l'' ↦ inl l'' | inr g ↦ inr (omega (arith, g, t.grows a)) ]
      | inr g ↦ inr g
    ];
    balance = t.balance ∙ s.balance;
  }
