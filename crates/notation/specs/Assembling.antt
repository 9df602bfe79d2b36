-- The sheet that a text says, or the first mistake in it.
use Rattle.std.specs.Prelude.{ℕ, ◌+◌, ◌-◌, ◌/◌, ◌%◌, ◌^◌, List, [], ◌∷◌, ◌++◌, length, Some, None, Option}
use Rattle.words.specs.Word.{Word}
use Rattle.groups.specs.Packing.{packed}
use Rattle.groups.specs.Groups.{group}
use Rattle.notation.specs.declared.expected.Expected.{Expected}
use Rattle.notation.specs.declared.expected.Expected.TheVariants.{Budget}
use Rattle.notation.specs.Scanning.{lines}
use Rattle.notation.specs.Drafts.{Draft, empty_draft, added, wrong, line_added}

-- The bytes of a sheet: the budget in four, most significant first, then the groups of the hand and of the cells.
abbrev pub four_bytes : ℕ → List ℕ
four_bytes n = (n / 2 ^ 24 % 256) ∷ (n / 2 ^ 16 % 256) ∷ (n / 2 ^ 8 % 256) ∷ (n % 256) ∷ []

abbrev pub groups_of : List Word → List ℕ
groups_of [] = []
groups_of (w ∷ ws) = group (packed w) ++ groups_of ws

abbrev pub sheet_bytes : ℕ → List Word → List Word → List ℕ
sheet_bytes budget hand cells = four_bytes budget ++ (groups_of hand ++ groups_of cells)

-- The bytes of a sheet, or a mistake: the line and the column, both counted from 1, and what was expected there.
pub data Outcome : Type 0 where
  sheet : List ℕ → Outcome
  mistake : ℕ → ℕ → Expected → Outcome

-- A text without a budget misses it after its last line.
abbrev pub finished : Option ℕ → Draft → ℕ → Outcome
finished (Some steps) d number = sheet (sheet_bytes steps d.hand d.cells)
finished None d number = mistake number 1 Budget

abbrev pub column : List ℕ → ℕ → ℕ
column line left = length line - left + 1

-- The lines one after the other, from the line with the number on. `all` are the lines of the whole text, in which labels are looked up.
abbrev pub from_line : List (List ℕ) → Draft → ℕ → List (List ℕ) → Outcome
from_line all d number [] = finished d.steps d number
from_line all d number (line ∷ rest) =
    elim (line_added all d number line) [
      | added d' ↦ from_line all d' (number + 1) rest
      | wrong e left ↦ mistake number (column line left) e
    ]

abbrev pub assembled : List ℕ → Outcome
assembled text = from_line (lines text) empty_draft 1 (lines text)
