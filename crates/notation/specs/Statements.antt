-- What a line says: at most one statement, after a label if there is one.
use Rattle.std.specs.Prelude.{ℕ, cond, List, length, Some, None, codes, Option, ◌==◌}
use Rattle.std.specs.Str.{bytes_eq}
use Rattle.words.specs.Word.{Word}
use Rattle.notation.specs.declared.expected.Expected.TheVariants.{End, AddressAhead}
use Rattle.notation.specs.Scanning.{skipped, front, behind}
use Rattle.notation.specs.Numerals.{number_in, register_in}
use Rattle.notation.specs.Places.{Parsed, got, missed, then, taken, steps_at, word_at}

pub data Statement : Type 0 where
  nothing : Statement
  budget : ℕ → Statement  -- the steps that a run may make
  register : ℕ → Word → Statement  -- the word of a register in the hand
  at : ℕ → Statement  -- the address moves on
  cell : Word → Statement  -- the word of the next cell

-- Nothing but a comment follows a statement.
abbrev pub ended : Statement → List ℕ → Parsed Statement
ended statement line = let rest = skipped line in cond (length (front rest) == 0) (got statement rest) (missed End (length rest))

abbrev pub budget_line : List (List ℕ) → List ℕ → Parsed Statement
budget_line lines line = then (steps_at lines line) (λ steps rest. ended (budget steps) rest)

-- `at` takes a number, and no label, so that addresses can be told before labels are.
abbrev pub at_line : List ℕ → Parsed Statement
at_line line = let rest = skipped line in then (taken (number_in (front rest)) AddressAhead rest) (λ address rest'. ended (at address) rest')

abbrev pub register_line : List (List ℕ) → ℕ → List ℕ → Parsed Statement
register_line lines number line = then (word_at lines line) (λ word rest. ended (register number word) rest)

abbrev pub cell_line : List (List ℕ) → List ℕ → Parsed Statement
cell_line lines line = then (word_at lines line) (λ word rest. ended (cell word) rest)

abbrev pub register_or_cell : List (List ℕ) → Option ℕ → List ℕ → Parsed Statement
register_or_cell lines (Some number) rest = register_line lines number (behind rest)
register_or_cell lines None rest = cell_line lines rest

-- By the first word of the line, its label aside.
abbrev pub statement_at : List (List ℕ) → List ℕ → Parsed Statement
statement_at lines line =
    let rest = skipped line in
    let word = front rest in
    cond (length word == 0) (got nothing rest)
    (cond (bytes_eq (codes "budget") word) (budget_line lines (behind rest))
    (cond (bytes_eq (codes "at") word) (at_line (behind rest)) (register_or_cell lines (register_in word) rest)))
