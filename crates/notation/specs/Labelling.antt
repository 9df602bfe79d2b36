-- What a label stands for: the law that ties labels to cells.
use Rattle.std.specs.Prelude.{◌≡◌, ℕ, ◌+◌, List, [], ◌∷◌, ◌++◌, length, pos, Some, None, Option}
use Rattle.words.specs.Word.{Word}
use Rattle.notation.specs.Scanning.{lines}
use Rattle.notation.specs.Labels.{label_of, defined, value_in}
use Rattle.notation.specs.Drafts.{Draft, empty_draft, added, wrong, line_added}
use Rattle.notation.specs.Assembling.{sheet, sheet_bytes, assembled}

-- The draft after some lines, from the line with the number on; none where one of them is wrong. `all` are the lines of the whole text.
abbrev pub drafted : List (List ℕ) → Draft → ℕ → List (List ℕ) → Option Draft
drafted all d number [] = Some d
drafted all d number (line ∷ rest) =
    elim (line_added all d number line) [
      | added d' ↦ drafted all d' (number + 1) rest
      | wrong e left ↦ None
    ]

-- What holds of a label, the name, in a text that assembles to the bytes: the line after the lines before it has the label.
pub record NamesCell (all : List (List ℕ)) (bytes : List ℕ) (before : List (List ℕ)) (name : List ℕ) : Type 0 where
  -- The lines before it give a draft.
  pub draft : Draft
  pub so_far : drafted all empty_draft 1 before ≡ Some draft
  -- The label is defined there, and the address is the number of cells so far.
  pub first : defined all name ≡ Some (record { line = length before + 1; address = length draft.cells })
  -- No other line has the label.
  pub only : (others after : List (List ℕ)) (line : List ℕ) → all ≡ others ++ (line ∷ after) → label_of line ≡ Some name → length others ≡ length before
  -- Where a number may stand, the label says that address.
  pub value : value_in all name ≡ Some (pos (length draft.cells))
  -- The cells so far are the first of the sheet, which the draft after all lines makes: so the address is that of the next cell.
  pub whole : Draft
  pub in_all : drafted all empty_draft 1 all ≡ Some whole
  pub budget : ℕ
  pub steps_are : whole.steps ≡ Some budget
  pub in_sheet : bytes ≡ sheet_bytes budget whole.hand whole.cells
  pub later : List Word
  pub cells_are : whole.cells ≡ draft.cells ++ later

-- In a text that assembles, every label stands for the address of the next cell: the number of cells that the lines before it give.
abbrev pub LabelsNameCells : Type 0
LabelsNameCells =
    (text bytes : List ℕ) (before after : List (List ℕ)) (line name : List ℕ) →
    assembled text ≡ sheet bytes → lines text ≡ before ++ (line ∷ after) → label_of line ≡ Some name →
    NamesCell (lines text) bytes before name
