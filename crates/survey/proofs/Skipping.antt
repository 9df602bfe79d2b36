-- Skips that stay right, and ranges that are marked by them.
use Rattle.std.proofs.Common.{◌≡◌, ℕ, ◌+◌, ◌<◌, ◌≤◌, min, List, get_or, replicate, subst, arith}
use Rattle.std.proofs.lemmas.Grind.{common_steps}
use Rattle.survey.specs.declared.skips.Skips.{Skips}
use Rattle.survey.specs.Marking.{Raised}
use Rattle.survey.specs.Skips.{AllMarked, SkipsMarked}
use Rattle.survey.proofs.Raising.{nothing_raised, and_then}

pub still_marked : {k from to : ℕ} {marks marks' p p' : List ℕ} → Raised k from to marks p marks' p' → (j : ℕ) (s : Skips) → SkipsMarked j marks s → SkipsMarked j marks' s
still_marked t j s r a x l g h = omega (arith, r a x l g (omega (arith, t.as_long)), t.grows x)

-- a range up to a or the end, whichever comes first
module _ {k from a end : ℕ} {m m' p p' : List ℕ} (s : Raised k from (min a end) m p m' p') (le : from ≤ a) (lt : a < end) where
  so_far : Raised k from a m p m' p'
  so_far = let e : min a end ≡ a = omega arith in subst (λ (n : ℕ). Raised k from n m p m' p') e s

  pub skipped_on : (b : ℕ) → a ≤ b → AllMarked k m' a b → Raised k from (min b end) m p m' p'
  skipped_on b g all = and_then so_far (nothing_raised k a (min b end) m' p' (λ x l h i. all x l (omega arith) i)) le (omega arith)

  pub marked_on : {m'' p'' : List ℕ} → Raised k a (a + 1) m' p' m'' p'' → Raised k from (min (a + 1) end) m p m'' p''
  marked_on {m''} {p''} t = let e : a + 1 ≡ min (a + 1) end = omega arith in subst (λ (n : ℕ). Raised k from n m p m'' p'') e (and_then so_far t le (omega arith))

-- where there is no skip yet, none is wrong
no_skip : (n a : ℕ) → ◌≡◌ {A = ℕ} (get_or (replicate n 0) a 0) 0
no_skip n a = grind (arith, common_steps)

pub new_marked : (n k : ℕ) (marks : List ℕ) → SkipsMarked k marks (record { next = replicate n 0 })
new_marked n k marks a x l g h = absurd (omega (arith, no_skip n a))
