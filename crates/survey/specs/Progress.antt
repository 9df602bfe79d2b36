-- How a survey stands while words are followed, and when none is left.
use Rattle.std.specs.Prelude.{◌≡◌, ℕ, ◌<◌, ◌≤◌, ◌⊎◌, List, length, slice_index}
use Rattle.words.specs.Word.{Cap, Word, capability, at, Covers}
use Rattle.model.specs.Survey.{Held}
use Rattle.survey.specs.Levels.{permission_level}
use Rattle.survey.specs.Pending.{Listed}

-- A mark that a held capability accounts for.
pub data Sound (hand cells : List Word) (a : ℕ) : ℕ → Type 0 where
  unmarked : Sound hand cells a 0
  marked : {c : Cap} → Held hand cells c → Covers c a → a < length cells → Sound hand cells a (permission_level c.permission)

-- The cells that c covers are marked at its level.
abbrev pub Painted : List ℕ → Cap → Type 0
Painted marks c = (a : ℕ) → Covers c a → a < length marks → permission_level c.permission ≤ slice_index marks a

-- Every mark is sound, and n words of the hand were followed. What a marked cell holds was followed, unless the cell is on the work list p.
pub record Progress (hand cells : List Word) (n : ℕ) (marks p : List ℕ) : Type 0 where
  pub as_long : length marks ≡ length cells
  pub sound : (a : ℕ) → Sound hand cells a (slice_index marks a)
  pub listed : (a : ℕ) → Listed p a → 1 ≤ slice_index marks a
  pub from_hand : (i : ℕ) (c : Cap) → i < n → at hand i ≡ capability c → Painted marks c
  pub from_cells : (a : ℕ) (c : Cap) → 1 ≤ slice_index marks a → at cells a ≡ capability c → Listed p a ⊎ Painted marks c

-- Every mark is sound, and every word of the hand and of a marked cell was followed.
pub record Complete (hand cells : List Word) (marks : List ℕ) : Type 0 where
  pub as_long : length marks ≡ length cells
  pub sound : (a : ℕ) → Sound hand cells a (slice_index marks a)
  pub from_hand : (i : ℕ) (c : Cap) → at hand i ≡ capability c → Painted marks c
  pub from_cells : (a : ℕ) (c : Cap) → 1 ≤ slice_index marks a → at cells a ≡ capability c → Painted marks c
