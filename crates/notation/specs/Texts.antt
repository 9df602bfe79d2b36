-- How words of the machine are written.
use Rattle.std.specs.Prelude.{ℕ, ◌-◌, cond, List, [], ◌++◌, ℤ, Some, None, codes, decimal, Option}
use Rattle.std.specs.Fmt.{signed_decimal}
use Rattle.words.specs.Permissions.{permission_code}
use Rattle.words.specs.Localities.{locality_code}
use Rattle.words.specs.Word.{Cap, Word, integer, capability}
use Rattle.instructions.specs.declared.instruction.Operand.{Operand}
use Rattle.instructions.specs.declared.instruction.Operand.TheVariants.{Register, Constant}
use Rattle.instructions.specs.declared.instruction.Instruction.{Instruction}
use Rattle.instructions.specs.declared.parts.Parts.{Parts}
use Rattle.instructions.specs.Table.{parts_of}
use Rattle.instructions.specs.Packing.{unpacked}
use Rattle.notation.specs.Names.{instruction_names, permission_names, locality_names, named, has_d, has_a, has_b}

-- `RW Local 2 3 2`
abbrev pub capability_text : Cap → List ℕ
capability_text c =
    named permission_names (permission_code c.permission) ++ (codes " " ++ (named locality_names (locality_code c.locality)
    ++ (codes " " ++ (decimal c.base ++ (codes " " ++ (decimal c.end ++ (codes " " ++ decimal c.cursor)))))))

-- A word in a register: an integer is written as its number.
abbrev pub word_text : Word → List ℕ
word_text (integer z) = signed_decimal z
word_text (capability c) = capability_text c

-- `r3`
abbrev pub register_text : ℕ → List ℕ
register_text n = codes "r" ++ decimal n

abbrev pub operand_text : Operand → List ℕ
operand_text (Register n) = register_text n
operand_text (Constant z) = signed_decimal z

-- `store r1 7`: the name, then those of D, A and B that the instruction has, a space before each.
abbrev pub parts_text : Parts → List ℕ
parts_text p =
    named instruction_names (p.opcode - 1)
    ++ (cond (has_d p.opcode) (codes " " ++ register_text p.d) []
    ++ (cond (has_a p.opcode) (codes " " ++ operand_text p.a) []
    ++ cond (has_b p.opcode) (codes " " ++ operand_text p.b) []))

abbrev pub instruction_text : Instruction → List ℕ
instruction_text i = parts_text (parts_of i)

abbrev pub integer_text : Option Instruction → ℤ → List ℕ
integer_text (Some i) z = instruction_text i
integer_text None z = signed_decimal z

-- A word in a cell: an integer that holds an instruction is written as that.
abbrev pub cell_text : Word → List ℕ
cell_text (integer z) = integer_text (unpacked z) z
cell_text (capability c) = capability_text c
