-- A sheet in the making, and what a line adds to it.
use Rattle.std.specs.Prelude.{ℕ, ◌-◌, Bool, true, false, cond, ◌&&◌, List, [], ◌∷◌, ◌++◌, length, replicate, is_some, Some, None, Option, ◌==◌, nat_le, nat_lt, slice_index_or, slice_set}
use Rattle.words.specs.Word.{Word, zero_word}
use Rattle.notation.specs.declared.expected.Expected.{Expected}
use Rattle.notation.specs.declared.expected.Expected.TheVariants.{LabelName, NewLabel, OneBudget, OneWord, AddressAhead, Room}
use Rattle.notation.specs.Scanning.{skipped}
use Rattle.notation.specs.Labels.{Definition, most_cells, label_of, unlabelled, is_name, defined}
use Rattle.notation.specs.Places.{Parsed, got, missed}
use Rattle.notation.specs.Statements.{Statement, nothing, budget, register, at, cell, statement_at}

-- The budget, if a line gave it; the hand, with which of its words were given; and the cells so far.
pub record Draft : Type 0 where
  pub steps : Option ℕ
  pub hand : List Word
  pub given : List Bool
  pub cells : List Word

abbrev pub empty_draft : Draft
empty_draft = record { steps = None; hand = replicate 16 zero_word; given = replicate 16 false; cells = [] }

-- The draft with what was added, or what was expected, with how many bytes of the line were left there.
pub data Adding : Type 0 where
  added : Draft → Adding
  wrong : Expected → ℕ → Adding

abbrev pub with_steps : Draft → ℕ → Draft
with_steps d n = record { steps = Some n; hand = d.hand; given = d.given; cells = d.cells }

abbrev pub with_register : Draft → ℕ → Word → Draft
with_register d n w = record { steps = d.steps; hand = slice_set d.hand n w; given = slice_set d.given n true; cells = d.cells }

abbrev pub with_cells : Draft → List Word → Draft
with_cells d more = record { steps = d.steps; hand = d.hand; given = d.given; cells = d.cells ++ more }

-- A statement, whose first word has `left` bytes of the line behind its beginning. There is one budget and one word for a register; the address moves on
-- and not back, the cells between being 0; and there are at most 2,048 cells.
abbrev pub stated : Draft → Statement → ℕ → Adding
stated d nothing left = added d
stated d (budget n) left = cond (is_some d.steps) (wrong OneBudget left) (added (with_steps d n))
stated d (register n w) left = cond (slice_index_or d.given n false) (wrong OneWord left) (added (with_register d n w))
stated d (at a) left =
    cond (nat_le (length d.cells) a && nat_le a most_cells)
    (added (with_cells d (replicate (a - length d.cells) zero_word)))
    (wrong AddressAhead left)
stated d (cell w) left = cond (nat_lt (length d.cells) most_cells) (added (with_cells d (w ∷ []))) (wrong Room left)

abbrev pub parsed_added : Draft → Parsed Statement → ℕ → Adding
parsed_added d (got statement rest) left = stated d statement left
parsed_added d (missed e left') left = wrong e left'

-- The line with the number defines the label first.
abbrev pub defined_there : Option Definition → ℕ → Bool
defined_there (Some d) number = d.line == number
defined_there None number = false

-- A label has a name that labels may have, and no earlier line has it.
abbrev pub labelled : List (List ℕ) → Option (List ℕ) → ℕ → List ℕ → Adding → Adding
labelled lines (Some name) number line adding =
    cond (is_name name)
    (cond (defined_there (defined lines name) number) adding (wrong NewLabel (length (skipped line))))
    (wrong LabelName (length (skipped line)))
labelled lines None number line adding = adding

-- What a line adds, by its number among the lines.
abbrev pub line_added : List (List ℕ) → Draft → ℕ → List ℕ → Adding
line_added lines d number line =
    labelled lines (label_of line) number line
    (parsed_added d (statement_at lines (unlabelled line)) (length (skipped (unlabelled line))))
