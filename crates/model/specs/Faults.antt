-- The number of each fault.
use Rattle.std.specs.Prelude.{ℕ}
use Rattle.words.specs.declared.refusal.Refusal.TheVariants.{NoCell as refused_no_cell}
use Rattle.model.specs.declared.fault.Fault.{Fault}
use Rattle.model.specs.declared.fault.Fault.TheVariants.{NotExecutable, NoInstruction, WrongKind, NotPermitted, NotCovered, NoCell, LocalNotStorable, OutOfRange, NotBelow, ZeroDivisor, OrderedFail, CannotAdvance, UnknownPair}

abbrev pub fault_number : Fault → ℕ
fault_number NotExecutable = 11
fault_number NoInstruction = 12
fault_number WrongKind = 13
fault_number NotPermitted = 14
fault_number NotCovered = 15
fault_number (NoCell refusal) = 16
fault_number LocalNotStorable = 17
fault_number OutOfRange = 18
fault_number NotBelow = 19
fault_number ZeroDivisor = 20
fault_number OrderedFail = 21
fault_number CannotAdvance = 22
fault_number UnknownPair = 23

-- The fault of a step that needs a cell at or beyond the memory's size. It carries the refusal (1) that the memory gives there.
abbrev pub missing_cell : Fault
missing_cell = NoCell refused_no_cell
