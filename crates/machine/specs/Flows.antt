-- What a step of the code came to, and the machine that it leaves.
use Rattle.std.specs.Prelude.{◌≡◌, suc, cond, List, Ok, Err, Result, nat_lt}
use Rattle.words.specs.declared.word.Word.{Word as HeldWord}
use Rattle.words.specs.Word.{Word, integer, capability, with_cursor}
use Rattle.words.specs.Meaning.{meaning}
use Rattle.model.specs.declared.fault.Fault.{Fault}
use Rattle.model.specs.declared.fault.Fault.TheVariants.{CannotAdvance}
use Rattle.model.specs.Machine.{Machine, Stepped, moved, halts, faults}
use Rattle.model.specs.Numbers.{top}
use Rattle.machine.specs.declared.registers.Registers.{Registers}
use Rattle.machine.specs.declared.machine.Machine.{Machine as Held}
use Rattle.machine.specs.declared.flow.Flow.{Flow}
use Rattle.machine.specs.declared.flow.Flow.TheVariants.{Moved, Halted}
use Rattle.machine.specs.Files.{file}

-- The machine of registers and the cells of a memory.
abbrev pub machine : Registers → List Word → Machine
machine r cells = record { registers = file r; cells = cells }

-- The machine that one of the code stands for.
abbrev pub machine_of : {M : Type 0} → (M → List Word) → Held M → Machine
machine_of row m = machine m.registers (row m.memory)

-- What the code says of a step.
abbrev pub flow_of : Stepped → Result Flow Fault
flow_of (moved m) = Ok Moved
flow_of halts = Ok Halted
flow_of (faults f) = Err f

-- The machine after a step. A halt or a fault leaves the one that there was.
abbrev pub machine_after : Stepped → Machine → Machine
machine_after (moved m') m = m'
machine_after halts m = m
machine_after (faults f) m = m

-- Lands m s r m': a step from m that comes to s by the rules is r in the code, which leaves m'.
abbrev pub Lands : Machine → Stepped → Result Flow Fault → Machine → Type 0
Lands m s (Ok Moved) m' = s ≡ moved m'
Lands m s (Ok Halted) m' = (s ≡ halts) × (m' ≡ m)
Lands m s (Err f) m' = (s ≡ faults f) × (m' ≡ m)

-- The same of what cannot halt.
abbrev pub Goes : Machine → Stepped → Result (Unit {0}) Fault → Machine → Type 0
Goes m s (Ok u) m' = s ≡ moved m'
Goes m s (Err f) m' = (s ≡ faults f) × (m' ≡ m)

-- The pc one further, where it can be (22).
abbrev pub next_of : Word → Result Word Fault
next_of (integer z) = Err CannotAdvance
next_of (capability pc) = cond (nat_lt pc.cursor top) (Ok (capability (with_cursor pc (suc pc.cursor)))) (Err CannotAdvance)

-- What the code says of it.
abbrev pub next_given : Result HeldWord Fault → Result Word Fault
next_given (Ok w) = Ok (meaning w)
next_given (Err f) = Err f
