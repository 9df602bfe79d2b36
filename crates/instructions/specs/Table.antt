-- The table of instructions: the opcode of each, and which of the fields D, A and B it uses.
use Rattle.std.specs.Prelude.{ℕ, cond, pos, ◌==◌}
use Rattle.instructions.specs.declared.instruction.Operand.{Operand}
use Rattle.instructions.specs.declared.instruction.Operand.TheVariants.{Register, Constant}
use Rattle.instructions.specs.declared.instruction.Instruction.{Instruction}
use Rattle.instructions.specs.declared.parts.Parts.{Parts}
use Rattle.instructions.specs.declared.instruction.Instruction.TheVariants.{Fail, Halt, Jmp, Jnz, Move, Load, Store, Plus, Minus, Lt, Lea, Restrict, Subseg, IsPtr, GetP, GetL, GetB, GetE, GetA, Quot}

-- The fields that an instruction uses, with the instruction that they make. In `with_d_register` A is a register, and no constant.
pub data Form : Type 0 where
  no_instruction : Form
  alone : Instruction → Form
  with_d : (ℕ → Instruction) → Form
  with_d_a : (ℕ → Operand → Instruction) → Form
  with_d_register : (ℕ → ℕ → Instruction) → Form
  with_d_a_b : (ℕ → Operand → Operand → Instruction) → Form

-- One row: `form` at this opcode, and else what the rows below it say.
abbrev row : ℕ → ℕ → Form → Form → Form
row opcode n form others = cond (n == opcode) form others

-- The form of an opcode.
abbrev pub form_of : ℕ → Form
form_of n =
    row 1 n (alone Fail)
    (row 2 n (alone Halt)
    (row 3 n (with_d Jmp)
    (row 4 n (with_d_a Jnz)
    (row 5 n (with_d_a Move)
    (row 6 n (with_d_register Load)
    (row 7 n (with_d_a Store)
    (row 8 n (with_d_a_b Plus)
    (row 9 n (with_d_a_b Minus)
    (row 10 n (with_d_a_b Lt)
    (row 11 n (with_d_a Lea)
    (row 12 n (with_d_a Restrict)
    (row 13 n (with_d_a_b Subseg)
    (row 14 n (with_d_a IsPtr)
    (row 15 n (with_d_register GetP)
    (row 16 n (with_d_register GetL)
    (row 17 n (with_d_register GetB)
    (row 18 n (with_d_register GetE)
    (row 19 n (with_d_register GetA)
    (row 20 n (with_d_a_b Quot) no_instruction)))))))))))))))))))

-- The parts of an instruction: its opcode, and what stands in D, A and B.
abbrev pub parts : ℕ → ℕ → Operand → Operand → Parts
parts opcode d a b = record { opcode = opcode; d = d; a = a; b = b }

-- What stands in an operand that is not used: the constant 0, whose bits are zero.
abbrev pub unused : Operand
unused = Constant (pos 0)

-- The same table, read from the instruction's side. That the two sides agree is what `Unpacks` says in the contract of `unpack`.
abbrev pub parts_of : Instruction → Parts
parts_of Fail = parts 1 0 unused unused
parts_of Halt = parts 2 0 unused unused
parts_of (Jmp d) = parts 3 d unused unused
parts_of (Jnz d a) = parts 4 d a unused
parts_of (Move d a) = parts 5 d a unused
parts_of (Load d a) = parts 6 d (Register a) unused
parts_of (Store d a) = parts 7 d a unused
parts_of (Plus d a b) = parts 8 d a b
parts_of (Minus d a b) = parts 9 d a b
parts_of (Lt d a b) = parts 10 d a b
parts_of (Lea d a) = parts 11 d a unused
parts_of (Restrict d a) = parts 12 d a unused
parts_of (Subseg d a b) = parts 13 d a b
parts_of (IsPtr d a) = parts 14 d a unused
parts_of (GetP d a) = parts 15 d (Register a) unused
parts_of (GetL d a) = parts 16 d (Register a) unused
parts_of (GetB d a) = parts 17 d (Register a) unused
parts_of (GetE d a) = parts 18 d (Register a) unused
parts_of (GetA d a) = parts 19 d (Register a) unused
parts_of (Quot d a b) = parts 20 d a b
