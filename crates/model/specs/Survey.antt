-- Surveys: what the holder of a hand can come to, by chains of capabilities that begin in the hand.
use Rattle.std.specs.Prelude.{◌≡◌, ℕ, suc, ◌<◌, ◌≤◌, cond, T, ◌≢◌, List, [], ◌∷◌, length, take, nat_le, slice_index}
use Rattle.words.specs.declared.permission.Permission.TheVariants.{O}
use Rattle.words.specs.Permissions.{writes}
use Rattle.words.specs.Word.{Cap, Word, capability, at, Covers}

-- A capability is held when the hand has it, or when a cell has it that a held capability other than O covers. An E counts: a jump to it gives RX.
pub data Held (hand cells : List Word) : Cap → Type 0 where
  in_hand : {c : Cap} (i : ℕ) → at hand i ≡ capability c → Held hand cells c
  in_cell :
      {via c : Cap} (a : ℕ) → Held hand cells via → via.permission ≢ O → Covers via a → at cells a ≡ capability c →
      Held hand cells c

-- A cell is reached when a held capability other than O covers it.
pub record Reached (hand cells : List Word) (a : ℕ) : Type 0 where
  pub via : Cap
  pub held : Held hand cells via
  pub not_O : via.permission ≢ O
  pub covered : Covers via a
  pub exists : a < length cells

-- A cell is writable when a held capability that writes covers it.
pub record Writable (hand cells : List Word) (a : ℕ) : Type 0 where
  pub via : Cap
  pub held : Held hand cells via
  pub can_write : T (writes via.permission)
  pub covered : Covers via a
  pub exists : a < length cells

-- The mark of a cell: 2 if it is writable, else 1 if it is reached, else 0.
pub data Mark (hand cells : List Word) (a : ℕ) : ℕ → Type 0 where
  writable : Writable hand cells a → Mark hand cells a 2
  reached : ¬ Writable hand cells a → Reached hand cells a → Mark hand cells a 1
  apart : ¬ Writable hand cells a → ¬ Reached hand cells a → Mark hand cells a 0

-- How many of the marks are at least k.
abbrev pub count_from : ℕ → List ℕ → ℕ
count_from k [] = 0
count_from k (x ∷ xs) = cond (nat_le k x) (suc (count_from k xs)) (count_from k xs)

-- What a survey leaves in the chart and answers: each cell's byte is its mark, the bytes past the size stay, and the two numbers count the cells that
-- are marked at all and those that are marked 2.
pub record Charted (hand cells : List Word) (before after : List ℕ) (marked marked_2 : ℕ) : Type 0 where
  pub as_long : length after ≡ length before
  pub marks : (a : ℕ) → a < length cells → Mark hand cells a (slice_index after a)
  pub rest : (a : ℕ) → length cells ≤ a → slice_index after a ≡ slice_index before a
  pub count : marked ≡ count_from 1 (take (length cells) after)
  pub count_2 : marked_2 ≡ count_from 2 (take (length cells) after)
