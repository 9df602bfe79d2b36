-- The integer that an instruction packs into, and the instruction that an integer unpacks to.
use Rattle.std.specs.Prelude.{◌≡◌, ℕ, ◌+◌, ◌*◌, ◌/◌, ◌%◌, ◌^◌, Bool, cond, ◌&&◌, ℤ, pos, negsuc, Some, None, Ok, Err, Option, Result}
use Rattle.words.specs.declared.refusal.Refusal.{Refusal}
use Rattle.words.specs.Refusals.{refusal_number}
use Rattle.instructions.specs.declared.instruction.Instruction.{Instruction}
use Rattle.instructions.specs.declared.fields.Fields.{Fields}
use Rattle.instructions.specs.Operands.{register_exists, register_fits, constant_fits, operand_bits}
use Rattle.instructions.specs.declared.parts.Parts.{Parts}
use Rattle.instructions.specs.Table.{parts_of}
use Rattle.instructions.specs.Forms.{instruction_of}

-- An integer, or the number of a refusal.
pub data Packing : Type 0 where
  packed : ℤ → Packing
  refused : ℕ → Packing

-- What the code answered.
abbrev pub packing : Result ℤ Refusal → Packing
packing (Ok z) = packed z
packing (Err e) = refused (refusal_number e)

-- The opcode stands in bits 30 to 26, register D in 25 to 22, operand A in 21 to 11, and operand B in 10 to 0.
abbrev pub joined : Parts → ℕ
joined p = p.opcode * 2 ^ 26 + p.d * 2 ^ 22 + operand_bits p.a * 2 ^ 11 + operand_bits p.b

abbrev pub registers_fit : Parts → Bool
registers_fit p = register_exists p.d && (register_fits p.a && register_fits p.b)

abbrev pub constants_fit : Parts → Bool
constants_fit p = constant_fits p.a && constant_fits p.b

-- Every register that is named exists, or the packing is refused (2); then every constant is in range, or it is refused (3).
abbrev pub packing_parts : Parts → Packing
packing_parts p = cond (registers_fit p) (cond (constants_fit p) (packed (pos (joined p))) (refused 3)) (refused 2)

abbrev pub packing_of : Instruction → Packing
packing_of i = packing_parts (parts_of i)

-- What stands in these places of a number. A number with more bits has an opcode above 31, which is none.
abbrev pub fields_of : ℕ → Fields
fields_of n = record { opcode = n / 2 ^ 26; d = n / 2 ^ 22 % 2 ^ 4; a = n / 2 ^ 11 % 2 ^ 11; b = n % 2 ^ 11 }

-- A negative integer has bit 31 set, and is no instruction.
abbrev pub unpacked : ℤ → Option Instruction
unpacked (pos n) = instruction_of (fields_of n)
unpacked (negsuc n) = None

-- An integer unpacks to an instruction exactly when that instruction packs into it, and to none where none does.
abbrev pub Unpacks : ℤ → Option Instruction → Type 0
Unpacks z r = (i : Instruction) → (r ≡ Some i → packing_of i ≡ packed z) × (packing_of i ≡ packed z → r ≡ Some i)
