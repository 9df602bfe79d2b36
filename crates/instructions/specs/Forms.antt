-- What the fields of an integer make, by the form that the table gives for their opcode.
use Rattle.std.specs.Prelude.{ℕ, Bool, true, false, cond, ◌&&◌, Some, None, Option, ◌==◌}
use Rattle.instructions.specs.declared.instruction.Operand.{Operand}
use Rattle.instructions.specs.declared.instruction.Operand.TheVariants.{Register, Constant}
use Rattle.instructions.specs.declared.instruction.Instruction.{Instruction}
use Rattle.instructions.specs.declared.fields.Fields.{Fields}
use Rattle.instructions.specs.Operands.{flagged, operand_at}
use Rattle.instructions.specs.Table.{Form, no_instruction, alone, with_d, with_d_a, with_d_register, with_d_a_b, form_of}

-- The fields that an opcode doesn't use are zero, and the flag of A is set where A has to be a register.
abbrev pub well_formed : Form → Fields → Bool
well_formed no_instruction f = false
well_formed (alone i) f = f.d == 0 && (f.a == 0 && f.b == 0)
well_formed (with_d make) f = f.a == 0 && f.b == 0
well_formed (with_d_a make) f = f.b == 0
well_formed (with_d_register make) f = flagged f.a && f.b == 0
well_formed (with_d_a_b make) f = true

-- What the form makes of register D and two operands.
abbrev pub made : Form → ℕ → Operand → Operand → Option Instruction
made no_instruction d a b = None
made (alone i) d a b = Some i
made (with_d make) d a b = Some (make d)
made (with_d_a make) d a b = Some (make d a)
made (with_d_register make) d (Register n) b = Some (make d n)
made (with_d_register make) d (Constant z) b = None
made (with_d_a_b make) d a b = Some (make d a b)

-- The same, where there are two operands.
abbrev pub made_with : Form → ℕ → Option Operand → Option Operand → Option Instruction
made_with form d (Some a) (Some b) = made form d a b
made_with form d (Some a) None = None
made_with form d None b = None

-- What the form makes of the fields, if they are well-formed and hold operands.
abbrev pub filled : Form → Fields → Option Instruction
filled form f = cond (well_formed form f) (made_with form f.d (operand_at f.a) (operand_at f.b)) None

-- The instruction that the fields make, if they make one: their opcode has a form in the table.
abbrev pub instruction_of : Fields → Option Instruction
instruction_of f = filled (form_of f.opcode) f
