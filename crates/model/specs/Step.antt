-- One step of the machine: the fetch, the instruction, and the advance of the pc.
use Rattle.std.specs.Prelude.{ℕ, suc, cond, ◌&&◌, List, length, Some, None, Option, nat_lt, slice_set}
use Rattle.words.specs.Permissions.{executes}
use Rattle.words.specs.Word.{Word, integer, capability, at, covers, with_cursor}
use Rattle.instructions.specs.declared.instruction.Instruction.{Instruction}
use Rattle.instructions.specs.Packing.{unpacked}
use Rattle.model.specs.declared.fault.Fault.TheVariants.{NotExecutable, NoInstruction, CannotAdvance}
use Rattle.model.specs.Faults.{missing_cell}
use Rattle.model.specs.Machine.{Machine, Effect, put, read, write, pass, jump, halting, faulting, Stepped, moved, halts, faults}
use Rattle.model.specs.Numbers.{top}
use Rattle.model.specs.Checks.{check}
use Rattle.model.specs.Effects.{effect}

-- The instruction that a word holds. A capability holds none.
unfoldable pub instruction_in : Word → Option Instruction
instruction_in (integer z) = unpacked z
instruction_in (capability c) = None

-- What the instruction does, if there is one (12).
unfoldable pub obeyed : List Word → Option Instruction → Effect
obeyed r None = faulting NoInstruction
obeyed r (Some i) = effect r i

-- The fetch: the pc is a capability that executes and covers its cursor (11), the memory has that cell (16), and its word holds an instruction.
abbrev pub fetched : List Word → List Word → Word → Effect
fetched r cells (integer z) = faulting NotExecutable
fetched r cells (capability pc) =
    check (executes pc.permission && covers pc pc.cursor) NotExecutable (
    check (nat_lt pc.cursor (length cells)) missing_cell (
    obeyed r (instruction_in (at cells pc.cursor))))

-- What the machine is to do next.
unfoldable pub request : Machine → Effect
request m = fetched m.registers m.cells (at m.registers 0)

-- The advance: the pc is a capability with a cursor below 65,536 (22), which grows by 1.
abbrev pub advanced : List Word → List Word → Word → Stepped
advanced r cells (integer z) = faults CannotAdvance
advanced r cells (capability pc) =
    cond (nat_lt pc.cursor top)
    (moved (record { registers = slice_set r 0 (capability (with_cursor pc (suc pc.cursor))); cells = cells }))
    (faults CannotAdvance)

-- The pc that counts is the one that stands in the registers by now, with what the instruction wrote.
abbrev pub advance : List Word → List Word → Stepped
advance r cells = advanced r cells (at r 0)

-- What an effect does to the registers and the cells. A read or a write at or beyond the size faults (16).
unfoldable pub perform : List Word → List Word → Effect → Stepped
perform r cells (put d w) = advance (slice_set r d w) cells
perform r cells (read d a) = cond (nat_lt a (length cells)) (advance (slice_set r d (at cells a)) cells) (faults missing_cell)
perform r cells (write a w) = cond (nat_lt a (length cells)) (advance r (slice_set cells a w)) (faults missing_cell)
perform r cells pass = advance r cells
perform r cells (jump w) = moved (record { registers = slice_set r 0 w; cells = cells })
perform r cells halting = halts
perform r cells (faulting f) = faults f

-- One step: what the machine is to do next is performed.
unfoldable pub step : Machine → Stepped
step m = perform m.registers m.cells (request m)

-- Where a machine stands: the cursor of its pc, and nowhere where the pc holds an integer.
abbrev pub place_of : Word → Option ℕ
place_of (integer z) = None
place_of (capability pc) = Some pc.cursor

abbrev pub place : Machine → Option ℕ
place m = place_of (at m.registers 0)
