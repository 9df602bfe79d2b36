-- What may stand at each place of a line: registers, operands, addresses, and words of the machine.
use Rattle.std.specs.Prelude.{ℕ, ◌+◌, ◌-◌, ◌^◌, Bool, cond, List, length, ℤ, pos, negsuc, Some, None, Option, nat_le, nat_lt}
use Rattle.words.specs.declared.permission.Permission.{Permission}
use Rattle.words.specs.declared.locality.Locality.{Locality}
use Rattle.words.specs.Permissions.{permission_at}
use Rattle.words.specs.Localities.{locality_at}
use Rattle.words.specs.Word.{Word, integer, capability}
use Rattle.words.specs.Making.{Making, made, refused, made_with}
use Rattle.instructions.specs.declared.instruction.Operand.{Operand}
use Rattle.instructions.specs.declared.instruction.Operand.TheVariants.{Register as register_operand, Constant}
use Rattle.instructions.specs.declared.instruction.Instruction.{Instruction}
use Rattle.instructions.specs.Operands.{in_range}
use Rattle.instructions.specs.Table.{form_of, unused}
use Rattle.instructions.specs.Forms.{made as made_of}
use Rattle.instructions.specs.Packing.{Packing, packed, refused as not_packed, packing_of}
use Rattle.notation.specs.declared.expected.Expected.{Expected}
use Rattle.notation.specs.declared.expected.Expected.TheVariants.{Steps, Register, Operand as operand_expected, Address, Locality as locality_expected, Word as word_expected}
use Rattle.notation.specs.Scanning.{skipped, front, behind}
use Rattle.notation.specs.Names.{instruction_names, permission_names, locality_names, place_of, has_d, has_a, has_b, register_a}
use Rattle.notation.specs.Numerals.{register_in}
use Rattle.notation.specs.Labels.{value_in}

-- What was read, with what is left of the line; or what was expected, with how many bytes of the line were left there.
pub data Parsed (A : Type 0) : Type 0 where
  got : A → List ℕ → Parsed A
  missed : Expected → ℕ → Parsed A

abbrev pub then : {A B : Type 0} → Parsed A → (A → List ℕ → Parsed B) → Parsed B
then (got x rest) go = go x rest
then (missed e left) go = missed e left

-- What the word at the front says, or what it should have said.
abbrev pub taken : {A : Type 0} → Option A → Expected → List ℕ → Parsed A
taken (Some x) e rest = got x (behind rest)
taken None e rest = missed e (length rest)

abbrev pub register_at : List ℕ → Parsed ℕ
register_at line = let rest = skipped line in taken (register_in (front rest)) Register rest

-- A value from 0 to a limit.
abbrev pub natural : ℕ → Option ℤ → Option ℕ
natural limit (Some (pos n)) = cond (nat_le n limit) (Some n) None
natural limit (Some (negsuc n)) = None
natural limit None = None

abbrev pub steps_at : List (List ℕ) → List ℕ → Parsed ℕ
steps_at lines line = let rest = skipped line in taken (natural (2 ^ 32 - 1) (value_in lines (front rest))) Steps rest

abbrev pub address_at : List (List ℕ) → List ℕ → Parsed ℕ
address_at lines line = let rest = skipped line in taken (natural 65536 (value_in lines (front rest))) Address rest

abbrev pub locality_named : Option ℕ → Option Locality
locality_named (Some code) = locality_at code
locality_named None = None

abbrev pub locality_place : List ℕ → Parsed Locality
locality_place line = let rest = skipped line in taken (locality_named (place_of locality_names (front rest))) locality_expected rest

-- A register, or a constant from −512 to 511.
abbrev pub constant_from : Option ℤ → Option Operand
constant_from (Some z) = cond (in_range z) (Some (Constant z)) None
constant_from None = None

abbrev pub operand_from : Option ℕ → Option ℤ → Option Operand
operand_from (Some n) value = Some (register_operand n)
operand_from None value = constant_from value

abbrev pub operand_at : List (List ℕ) → List ℕ → Parsed Operand
operand_at lines line =
    let rest = skipped line in
    taken (operand_from (register_in (front rest)) (value_in lines (front rest))) operand_expected rest

-- D, A and B of an instruction, by its opcode. What it doesn't have stays unused.
abbrev pub d_at : ℕ → List ℕ → Parsed ℕ
d_at opcode line = cond (has_d opcode) (register_at line) (got 0 line)

abbrev pub register_only : Parsed ℕ → Parsed Operand
register_only (got n rest) = got (register_operand n) rest
register_only (missed e left) = missed e left

abbrev pub a_at : List (List ℕ) → ℕ → List ℕ → Parsed Operand
a_at lines opcode line =
    cond (register_a opcode) (register_only (register_at line))
    (cond (has_a opcode) (operand_at lines line) (got unused line))

abbrev pub b_at : List (List ℕ) → ℕ → List ℕ → Parsed Operand
b_at lines opcode line = cond (has_b opcode) (operand_at lines line) (got unused line)

-- The integer that an instruction packs into. `left` is where its name stands.
abbrev pub packed_word : Packing → List ℕ → ℕ → Parsed Word
packed_word (packed z) rest left = got (integer z) rest
packed_word (not_packed n) rest left = missed word_expected left

abbrev pub instruction_word : Option Instruction → List ℕ → ℕ → Parsed Word
instruction_word (Some i) rest left = packed_word (packing_of i) rest left
instruction_word None rest left = missed word_expected left

abbrev pub instruction_at : List (List ℕ) → ℕ → List ℕ → ℕ → Parsed Word
instruction_at lines opcode line left =
    then (d_at opcode line) (λ d rest.
    then (a_at lines opcode rest) (λ a rest'.
    then (b_at lines opcode rest') (λ b rest''. instruction_word (made_of (form_of opcode) d a b) rest'' left)))

-- A capability: after its permission a locality, a base, an end and a cursor.
abbrev pub capability_word : Making → List ℕ → ℕ → Parsed Word
capability_word (made c) rest left = got (capability c) rest
capability_word (refused n) rest left = missed word_expected left

abbrev pub capability_at : List (List ℕ) → Permission → List ℕ → ℕ → Parsed Word
capability_at lines permission line left =
    then (locality_place line) (λ locality rest.
    then (address_at lines rest) (λ base rest'.
    then (address_at lines rest') (λ end rest''.
    then (address_at lines rest'') (λ cursor rest'''. capability_word (made_with permission locality base end cursor) rest''' left))))

-- A value that 32 bits have room for.
abbrev pub fits_word : ℤ → Bool
fits_word (pos n) = nat_lt n (2 ^ 31)
fits_word (negsuc n) = nat_lt n (2 ^ 31)

abbrev pub integer_from : Option ℤ → Option Word
integer_from (Some z) = cond (fits_word z) (Some (integer z)) None
integer_from None = None

abbrev pub permission_named : Option ℕ → Option Permission
permission_named (Some code) = permission_at code
permission_named None = None

-- What a word of the text begins: an instruction, a capability, or else an integer.
abbrev pub integer_or_capability : List (List ℕ) → Option Permission → List ℕ → Parsed Word
integer_or_capability lines (Some permission) rest = capability_at lines permission (behind rest) (length rest)
integer_or_capability lines None rest = taken (integer_from (value_in lines (front rest))) word_expected rest

abbrev pub word_begun : List (List ℕ) → Option ℕ → List ℕ → Parsed Word
word_begun lines (Some place) rest = instruction_at lines (place + 1) (behind rest) (length rest)
word_begun lines None rest = integer_or_capability lines (permission_named (place_of permission_names (front rest))) rest

abbrev pub word_at : List (List ℕ) → List ℕ → Parsed Word
word_at lines line = let rest = skipped line in word_begun lines (place_of instruction_names (front rest)) rest
