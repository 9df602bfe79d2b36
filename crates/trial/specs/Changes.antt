-- Which cells a run changed.
use Rattle.std.specs.Prelude.{◌≡◌, ℕ, ◌≢◌, List, Some, None, Option}
use Rattle.words.specs.Word.{Word, at}
use Rattle.words.specs.Meaning.{meaning}
use Rattle.trial.specs.declared.changes.ChangedCell.{ChangedCell}

-- The cell with the word that it has after the run, where that is another than before; none where the two are the same.
abbrev pub Changed : List Word → List Word → ℕ → Option ChangedCell → Type 0
Changed before after a (Some c) = (c.address ≡ a) × (meaning c.word ≡ at after a) × (at before a ≢ at after a)
Changed before after a None = at before a ≡ at after a
