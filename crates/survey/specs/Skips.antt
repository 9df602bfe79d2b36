-- Skips over cells that are marked at a level.
use Rattle.std.specs.Prelude.{ℕ, ◌<◌, ◌≤◌, List, length, slice_index}
use Rattle.survey.specs.declared.skips.Skips.{Skips}

-- The cells from a up to and without b are marked at least k, as far as there are cells.
abbrev pub AllMarked : ℕ → List ℕ → ℕ → ℕ → Type 0
AllMarked k marks a b = (x : ℕ) → a ≤ x → x < b → x < length marks → k ≤ slice_index marks x

-- Each skip goes over cells that are marked at least k.
abbrev pub SkipsMarked : ℕ → List ℕ → Skips → Type 0
SkipsMarked k marks s = (a : ℕ) → AllMarked k marks a (slice_index s.next a)

-- A skip from a to b. It goes over marked cells, and keeps the skips so, at any level and for any marks for which they are.
pub record Skipped (s : Skips) (a b : ℕ) (s' : Skips) : Type 0 where
  pub onward : a ≤ b
  pub over : (k : ℕ) (marks : List ℕ) → SkipsMarked k marks s → AllMarked k marks a b
  pub kept : (k : ℕ) (marks : List ℕ) → SkipsMarked k marks s → SkipsMarked k marks s'
