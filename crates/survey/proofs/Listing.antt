-- The work list, one cell longer.
use Rattle.std.proofs.Common.{◌≡◌, ℕ, ◌⊎◌, List, [], ◌∷◌, ◌++◌, length, sym, ◌∙◌, inl, inr, arith, length-append}
use Rattle.std.proofs.Math.Seq.{get_or-append_seam}
use Rattle.std.proofs.lemmas.List.{get_or_append_left}
use Rattle.std.proofs.lemmas.Bool.{cases_lt}
use Rattle.std.proofs.lemmas.Grind.{common_steps}
use Rattle.survey.specs.Pending.{Listed}

module _ (p : List ℕ) (a : ℕ) where
  pub kept : (x : ℕ) → Listed p x → Listed (p ++ a ∷ []) x
  kept x l = (l.0, omega (arith, length-append p (a ∷ [])), get_or_append_left p (a ∷ []) 0 l.0 l.1 ∙ l.2)

  pub here : Listed (p ++ a ∷ []) a
  here = (length p, omega (arith, length-append p (a ∷ [])), get_or-append_seam p a [] 0)

  pub only : (x : ℕ) → Listed (p ++ a ∷ []) x → (x ≡ a) ⊎ Listed p x
  only x l = elim (cases_lt l.0 (length p)) [
    | inl before ↦ inr (l.0, before, sym (get_or_append_left p (a ∷ []) 0 l.0 before) ∙ l.2)
    | inr last ↦ inl (grind (arith, common_steps, length-append p (a ∷ []), get_or-append_seam p a [] 0, l.1, l.2))
  ]
