-- The number of each refusal.
use Rattle.std.specs.Prelude.{ℕ}
use Rattle.words.specs.declared.refusal.Refusal.{Refusal}
use Rattle.words.specs.declared.refusal.Refusal.TheVariants.{NoCell, NoRegister, OutOfRange, UnknownCode, MalformedGroup, ShortChart, MalformedInput}

abbrev pub refusal_number : Refusal → ℕ
refusal_number NoCell = 1
refusal_number NoRegister = 2
refusal_number OutOfRange = 3
refusal_number UnknownCode = 4
refusal_number MalformedGroup = 5
refusal_number ShortChart = 6
refusal_number MalformedInput = 7
