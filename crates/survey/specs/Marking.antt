-- What marking a range of cells does to the marks and to the work list p.
use Rattle.std.specs.Prelude.{◌≡◌, ◌==◌, ℕ, ◌+◌, ◌<◌, ◌≤◌, ◌⊎◌, List, count_by, length, slice_index}
use Rattle.survey.specs.Pending.{Listed}

-- How many cells are not marked.
abbrev pub blanks : List ℕ → ℕ
blanks = count_by (λ mark. mark == 0)

-- The cells from `from` up to and without `to` are marked at least k, as far as there are cells. No other mark changes and none is lowered. Each cell that
-- had no mark before is now on the list, and every cell that was on the list still is.
pub record Raised (k from to : ℕ) (marks p marks' p' : List ℕ) : Type 0 where
  pub as_long : length marks' ≡ length marks
  pub grows : (a : ℕ) → slice_index marks a ≤ slice_index marks' a
  pub raised : (a : ℕ) → from ≤ a → a < to → a < length marks → k ≤ slice_index marks' a
  pub only : (a : ℕ) → (slice_index marks' a ≡ slice_index marks a) ⊎ ((from ≤ a) × (a < to) × (a < length marks) × (slice_index marks' a ≡ k))
  pub kept : (a : ℕ) → Listed p a → Listed p' a
  pub fresh : (a : ℕ) → slice_index marks a ≡ 0 → 1 ≤ slice_index marks' a → Listed p' a
  pub listed : (a : ℕ) → Listed p' a → Listed p a ⊎ (1 ≤ slice_index marks' a)
  pub balance : length p' + blanks marks' ≡ length p + blanks marks
