-- The kinds of worked cases, and when a case holds.
use Rattle.std.specs.Prelude.{◌≡◌, ℕ, Bool, List, ℤ, Some, None, Option}
use Rattle.words.specs.declared.permission.Permission.{Permission}
use Rattle.words.specs.Word.{Word, at}
use Rattle.words.specs.Orders.{below_permission}
use Rattle.groups.specs.Packing.{packed}
use Rattle.groups.specs.Groups.{group, group_word}
use Rattle.groups.specs.Answers.{refused, unpacking_of}
use Rattle.instructions.specs.declared.instruction.Instruction.{Instruction}
use Rattle.instructions.specs.Packing as packing
use Rattle.model.specs.declared.fault.Fault.{Fault}
use Rattle.model.specs.declared.status.Status.TheVariants.{Running, Failed}
use Rattle.model.specs.Machine.{Machine, Stepped, moved, halts, faults}
use Rattle.model.specs.Step.{step}
use Rattle.model.specs.Run.{Runs}

pub data Check : Type 0 where
  packs : Word → List ℕ → Check  -- the word's group
  packs_no_word : List ℕ → Check  -- unpacking these bytes is refused (5)
  packs_as : Instruction → ℤ → Check  -- the instruction's integer
  holds_no_instruction : ℤ → Check
  is_below : Permission → Permission → Bool → Check
  step_faults : Machine → Fault → Check
  step_puts : Machine → ℕ → Word → Check  -- one step leaves this word in the register
  step_stores : Machine → ℕ → Word → Check  -- one step leaves this word in the cell
  run_fails : Machine → ℕ → Fault → Option ℕ → Check  -- a run of that many steps ends in the fault, at the place

-- The machine after a step that moved.
abbrev after : Stepped → (Machine → Type 0) → Type 0
after (moved m) P = P m
after halts P = ⊥
after (faults f) P = ⊥

abbrev pub Holds : Check → Type 0
Holds (packs w bytes) = (group (packed w) ≡ bytes) × (group_word bytes ≡ Some w)
Holds (packs_no_word bytes) = unpacking_of bytes ≡ refused 5
Holds (packs_as i z) = (packing.packing_of i ≡ packing.packed z) × (packing.unpacked z ≡ Some i)
Holds (holds_no_instruction z) = packing.unpacked z ≡ None
Holds (is_below p q b) = below_permission p q ≡ b
Holds (step_faults m f) = step m ≡ faults f
Holds (step_puts m i w) = after (step m) (λ m'. at m'.registers i ≡ w)
Holds (step_stores m a w) = after (step m) (λ m'. at m'.cells a ≡ w)
Holds (run_fails m n f place) = (m' : Machine) × Runs n m Running n m' (Failed f place)
