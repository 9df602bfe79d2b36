-- The worked cases, each under its name.
use Rattle.std.specs.Prelude.{ℕ, true, false, List, [], ◌∷◌, pos, negsuc, None, codes}
use Rattle.std.specs.List.{AllByRecursion}
use Rattle.words.specs.declared.permission.Permission.{Permission}
use Rattle.words.specs.declared.permission.Permission.TheVariants.{RO, RW, RWL, RX, E}
use Rattle.words.specs.declared.locality.Locality.{Locality}
use Rattle.words.specs.declared.locality.Locality.TheVariants.{Global, Local}
use Rattle.words.specs.Word.{Word, integer, capability}
use Rattle.instructions.specs.declared.instruction.Instruction.TheVariants.{Halt, Plus}
use Rattle.instructions.specs.declared.instruction.Operand.TheVariants.{Register, Constant}
use Rattle.model.specs.declared.fault.Fault.TheVariants.{NotExecutable, NotCovered, LocalNotStorable, OutOfRange}
use Rattle.model.specs.Machine.{Machine}
use Rattle.cases.specs.Kinds.{Check, packs, packs_no_word, packs_as, holds_no_instruction, is_below, step_faults, step_puts, step_stores, run_fails, Holds}

pub record Case : Type 0 where
  pub name : List ℕ
  pub check : Check

abbrev case : List ℕ → Check → Case
case n c = record { name = n; check = c }

abbrev cap : Permission → Locality → ℕ → ℕ → ℕ → Word
cap p l b e k = capability (record { permission = p; locality = l; base = b; end = e; cursor = k })

abbrev int : ℕ → Word
int n = integer (pos n)

-- A machine at its first cell, with the words of registers 1 and 2; it executes the first two cells.
abbrev machine : Word → Word → List Word → Machine
machine first second cells =
    record {
      registers = cap RX Global 0 2 0 ∷ first ∷ second ∷ int 0 ∷ int 0 ∷ int 0 ∷ int 0 ∷ int 0 ∷ int 0 ∷ int 0 ∷ int 0 ∷ int 0 ∷ int 0 ∷ int 0 ∷ int 0 ∷ int 0 ∷ [];
      cells = cells;
    }

-- The instructions that the cases run.
abbrev load_2_through_1 : Word
load_2_through_1 = int 413140992

abbrev store_2_through_1 : Word
store_2_through_1 = int 476057600

abbrev pub cases : List Case
cases =
    case (codes "minus one packs") (packs (integer (negsuc 0)) (0 ∷ 0 ∷ 0 ∷ 0 ∷ 0xFF ∷ 0xFF ∷ 0xFF ∷ 0xFF ∷ []))
    ∷ case (codes "RX Global packs") (packs (cap RX Global 0 3 0) (0xA0 ∷ 0 ∷ 0 ∷ 0 ∷ 0x01 ∷ 0x80 ∷ 0 ∷ 0 ∷ []))
    ∷ case (codes "RW Local packs") (packs (cap RW Local 2 3 2) (0x92 ∷ 0 ∷ 0x02 ∷ 0 ∷ 0x01 ∷ 0x80 ∷ 0 ∷ 0x80 ∷ []))
    ∷ case (codes "an integer of 33 bits packs no word") (packs_no_word (0 ∷ 0 ∷ 0 ∷ 1 ∷ 0 ∷ 0 ∷ 0 ∷ 0 ∷ []))
    ∷ case (codes "plus packs") (packs_as (Plus 2 (Register 3) (Constant (pos 1))) (pos 547362817))
    ∷ case (codes "halt packs") (packs_as Halt (pos 134217728))
    ∷ case (codes "zero holds no instruction") (holds_no_instruction (pos 0))
    ∷ case (codes "a sum beyond 32 bits faults") (step_faults (machine (int 0) (int 2147483647) (int 547360769 ∷ [])) OutOfRange)
    ∷ case (codes "7 by 2 is 4") (step_puts (machine (int 0) (int 0) (int 1346385922 ∷ [])) 1 (int 4))
    ∷ case (codes "-7 by 2 is -4") (step_puts (machine (int 0) (int 0) (int 1348454402 ∷ [])) 1 (integer (negsuc 3)))
    ∷ case (codes "the lowest integer by -1 faults") (step_faults (machine (int 0) (integer (negsuc 2147483647)) (int 1348473855 ∷ [])) OutOfRange)
    ∷ case (codes "E is below RX") (is_below E RX true)
    ∷ case (codes "E is not below RW") (is_below E RW false)
    ∷ case (codes "a cursor at the end is not covered") (step_faults (machine (cap RO Global 1 2 2) (int 0) (load_2_through_1 ∷ int 5 ∷ int 6 ∷ [])) NotCovered)
    ∷ case (codes "a cursor one below the end loads") (step_puts (machine (cap RO Global 1 2 1) (int 0) (load_2_through_1 ∷ int 5 ∷ int 6 ∷ [])) 2 (int 5))
    ∷ case (codes "RW does not store a Local word") (step_faults (machine (cap RW Global 1 2 1) (cap RO Local 0 1 0) (store_2_through_1 ∷ int 0 ∷ [])) LocalNotStorable)
    ∷ case (codes "RWL stores a Local word") (step_stores (machine (cap RWL Global 1 2 1) (cap RO Local 0 1 0) (store_2_through_1 ∷ int 0 ∷ [])) 1 (cap RO Local 0 1 0))
    ∷ case (codes "a cursor moves to 65536") (step_puts (machine (cap RO Global 0 1 65535) (int 0) (int 742393856 ∷ [])) 1 (cap RO Global 0 1 65536))
    ∷ case (codes "a cursor does not move beyond 65536") (step_faults (machine (cap RO Global 0 1 65535) (int 0) (int 742395904 ∷ [])) OutOfRange)
    ∷ case (codes "a jump to an integer is found out at the next step") (run_fails (machine (int 7) (int 0) (int 205520896 ∷ [])) 2 NotExecutable None)
    ∷ []

abbrev pub CasesHold : Type 0
CasesHold = AllByRecursion (λ c. Holds c.check) cases
