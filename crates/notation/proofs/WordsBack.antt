-- The words of the machine, as they are written, are read back.
use Rattle.std.proofs.Common.{◌≡◌, ℕ, zero, suc, ◌+◌, ◌-◌, ◌^◌, ◌<◌, ◌≤◌, Bool, true, false, cond, not, ◌&&◌, eqb, leb, List, [], ◌∷◌, ◌++◌, length, get_or, ℤ, pos, negsuc, is_some, Some, None, codes, decimal, Option, sym, refl, ap, ◌∙◌, subst, append_assoc, arith}
use Rattle.std.specs.Fmt.{signed_decimal}
use Rattle.std.specs.Str.{bytes_eq}
use Rattle.std.proofs.lemmas.Bool.Decides.{nat_tests}
use Rattle.std.proofs.lemmas.Bool.{and_parts, le-leb, leb-true, not-true}
use Rattle.std.proofs.lemmas.Fmt.{decimal_nonempty}
use Rattle.words.specs.declared.permission.Permission.{Permission}
use Rattle.words.specs.declared.permission.Permission.TheVariants.{O, RO, RW, RWL, RX, E, RWX, RWLX}
use Rattle.words.specs.declared.locality.Locality.{Locality}
use Rattle.words.specs.declared.locality.Locality.TheVariants.{Global, Local}
use Rattle.words.specs.Permissions.{permission_code}
use Rattle.words.specs.Localities.{locality_code}
use Rattle.words.specs.Word.{Cap, Word, integer, capability}
use Rattle.groups.specs.Packing.{Exists}
use Rattle.instructions.specs.declared.instruction.Operand.{Operand}
use Rattle.instructions.specs.declared.instruction.Operand.TheVariants.{Register, Constant}
use Rattle.instructions.specs.declared.instruction.Instruction.{Instruction}
use Rattle.instructions.specs.declared.instruction.Instruction.TheVariants.{Fail, Halt, Jmp, Jnz, Move, Load, Store, Plus, Minus, Lt, Lea, Restrict, Subseg, IsPtr, GetP, GetL, GetB, GetE, GetA, Quot}
use Rattle.instructions.specs.Operands.{in_range}
use Rattle.instructions.specs.declared.parts.Parts.{Parts}
use Rattle.instructions.specs.Table.{parts_of, form_of, unused}
use Rattle.instructions.specs.Forms.{made as made_of}
use Rattle.instructions.specs.Packing.{Packing, packed, packing_of, unpacked}
use Rattle.instructions.proofs.Places.{Fits, Accepted, accepted}
use Rattle.instructions.proofs.RoundTrip.{exactly}
use Rattle.notation.specs.declared.expected.Expected.{Expected}
use Rattle.notation.specs.declared.expected.Expected.TheVariants.{Steps, Address, Register as register_expected, Operand as operand_expected, Locality as locality_expected}
use Rattle.notation.specs.Scanning.{blank, skipped, front, behind}
use Rattle.notation.specs.Names.{instruction_names, permission_names, locality_names, named, place_of, has_d, has_a, has_b, register_a}
use Rattle.notation.specs.Numerals.{register_in}
use Rattle.notation.specs.Labels.{colon_ends, value_in}
use Rattle.notation.specs.Places.{register_only, fits_word, operand_from, got, taken, register_at, natural, steps_at, address_at, locality_place, operand_at, instruction_at, instruction_word, packed_word, capability_at, word_at, permission_named, locality_named}
use Rattle.notation.specs.Texts.{register_text, operand_text, word_text, capability_text, instruction_text, integer_text, cell_text}
use Rattle.notation.proofs.Figures.{plain_byte, plain, plain_in_word, plain_no_blank, decimal_plain, natural_back, word_fits, integer_back, signed_plain, signed_low, low_other, low_no_place, low_no_register, register_back}

-- What may follow a word: the end, or a blank.
abbrev pub Ends : List ℕ → Type 0
Ends [] = Unit {0}
Ends (c ∷ cs) = blank c ≡ true

-- A word of plain bytes at the front, before what may follow it.
front_word : (w tail : List ℕ) → plain w ≡ true → Ends tail → front (w ++ tail) ≡ w
front_word [] [] p e = refl
front_word [] (c ∷ cs) p e = grind arith
front_word (c ∷ cs) tail p e = grind (arith, plain_in_word c, front_word cs tail)

behind_word : (w tail : List ℕ) → plain w ≡ true → Ends tail → behind (w ++ tail) ≡ tail
behind_word [] [] p e = refl
behind_word [] (c ∷ cs) p e = grind arith
behind_word (c ∷ cs) tail p e = grind (arith, plain_in_word c, behind_word cs tail)

-- Plain bytes, and one at least.
abbrev solid : List ℕ → Bool
solid w = plain w && leb 1 (length w)

solid_plain : (w : List ℕ) → solid w ≡ true → plain w ≡ true
solid_plain w s = (and_parts (plain w) (leb 1 (length w)) s).0

skipped_word : (w tail : List ℕ) → solid w ≡ true → skipped (w ++ tail) ≡ w ++ tail
skipped_word [] tail s = absurd (cc)
skipped_word (c ∷ cs) tail s = grind (arith, plain_no_blank c)

-- What a word says is taken from the front of the line.
taken_word : {A : Type 0} (says : List ℕ → Option A) (x : A) (e : Expected) (w tail : List ℕ) → solid w ≡ true → Ends tail → says w ≡ Some x
    → taken (says (front (skipped (w ++ tail)))) e (skipped (w ++ tail)) ≡ got x tail
taken_word says x e w tail s t h =
    let p = solid_plain w s in
    simp (skipped_word w tail s, front_word w tail p t, h, behind_word w tail p t)

-- Numbers and registers are words.
decimal_solid : (n : ℕ) → n < 2 ^ 64 → solid (decimal n) ≡ true
decimal_solid n h = grind (arith, nat_tests, decimal_plain n h, decimal_nonempty n h)

signed_solid : (z : ℤ) → fits_word z ≡ true → solid (signed_decimal z) ≡ true
signed_solid (pos n) h = decimal_solid n (grind (arith, nat_tests))
signed_solid (negsuc n) h = grind (arith, nat_tests, signed_plain (negsuc n) h)

register_solid : (n : ℕ) → n < 16 → solid (register_text n) ≡ true
register_solid n h = grind (arith, nat_tests, decimal_plain n)

-- A number up to a limit, behind a space.
value_back : (ls : List (List ℕ)) (limit n : ℕ) → n < 2 ^ 32 → n ≤ limit → natural limit (value_in ls (decimal n)) ≡ Some n
value_back ls limit n h l = simp (natural_back n h, le-leb n limit l)

pub steps_read : (ls : List (List ℕ)) (n : ℕ) (tail : List ℕ) → n < 2 ^ 32 → Ends tail → steps_at ls (32 ∷ (decimal n ++ tail)) ≡ got n tail
steps_read ls n tail h t =
    taken_word (λ (w : List ℕ). natural (2 ^ 32 - 1) (value_in ls w)) n Steps (decimal n) tail
    (decimal_solid n (omega arith)) t (value_back ls (2 ^ 32 - 1) n h (omega arith))

address_read : (ls : List (List ℕ)) (n : ℕ) (tail : List ℕ) → n ≤ 65536 → Ends tail → address_at ls (32 ∷ (decimal n ++ tail)) ≡ got n tail
address_read ls n tail h t =
    taken_word (λ (w : List ℕ). natural 65536 (value_in ls w)) n Address (decimal n) tail
    (decimal_solid n (omega arith)) t (value_back ls 65536 n (omega arith) h)

register_read : (n : ℕ) (tail : List ℕ) → n < 16 → Ends tail → register_at (32 ∷ (register_text n ++ tail)) ≡ got n tail
register_read n tail h t = taken_word register_in n register_expected (register_text n) tail (register_solid n h) t (register_back n h)

constant_small : (z : ℤ) → in_range z ≡ true → fits_word z ≡ true
constant_small (pos n) h = grind (arith, nat_tests)
constant_small (negsuc n) h = grind (arith, nat_tests)

operand_solid : (x : Operand) → Fits x → solid (operand_text x) ≡ true
operand_solid (Register n) f = register_solid n (omega (arith, leb-true n 15 f.register))
operand_solid (Constant z) f = signed_solid z (constant_small z f.constant)

operand_says : (ls : List (List ℕ)) (x : Operand) → Fits x → operand_from (register_in (operand_text x)) (value_in ls (operand_text x)) ≡ Some x
operand_says ls (Register n) f = simp (register_back n (omega (arith, leb-true n 15 f.register)))
operand_says ls (Constant z) f =
    let s = constant_small z f.constant in
    simp (low_no_register (signed_decimal z) (signed_low z s), integer_back z s, f.constant)

operand_read : (ls : List (List ℕ)) (x : Operand) (tail : List ℕ) → Fits x → Ends tail → operand_at ls (32 ∷ (operand_text x ++ tail)) ≡ got x tail
operand_read ls x tail f t =
    taken_word (λ (w : List ℕ). operand_from (register_in w) (value_in ls w)) x operand_expected (operand_text x) tail
    (operand_solid x f) t (operand_says ls x f)

-- A first word that begins no other statement.
abbrev leads : List ℕ → Bool
leads w = solid w && (not (bytes_eq (codes "budget") w) && (not (bytes_eq (codes "at") w) && not (is_some (register_in w))))

leads_solid : (w : List ℕ) → leads w ≡ true → solid w ≡ true
leads_solid w h = (and_parts (solid w) _ h).0

-- An integer.
integer_reads : (ls : List (List ℕ)) (z : ℤ) (tail : List ℕ) → fits_word z ≡ true → Ends tail → word_at ls (signed_decimal z ++ tail) ≡ got (integer z) tail
integer_reads ls z tail h t =
    let s = signed_solid z h in
    let p = solid_plain (signed_decimal z) s in
    let l = signed_low z h in
    simp (
      skipped_word (signed_decimal z) tail s,
      front_word (signed_decimal z) tail p t,
      low_no_place 0 instruction_names (signed_decimal z) refl l,
      low_no_place 0 permission_names (signed_decimal z) refl l,
      integer_back z h,
      h,
      behind_word (signed_decimal z) tail p t,
    )

-- The name of a permission, with which a capability begins.
record Named (p : Permission) (w : List ℕ) : Type 0 where
  leading : leads w ≡ true
  no_instruction : place_of instruction_names w ≡ None
  permission_is : permission_named (place_of permission_names w) ≡ Some p

abbrev permission_text : Permission → List ℕ
permission_text p = named permission_names (permission_code p)

permission_name : (p : Permission) → Named p (permission_text p)
permission_name O = record { leading = refl; no_instruction = refl; permission_is = refl }
permission_name RO = record { leading = refl; no_instruction = refl; permission_is = refl }
permission_name RW = record { leading = refl; no_instruction = refl; permission_is = refl }
permission_name RWL = record { leading = refl; no_instruction = refl; permission_is = refl }
permission_name RX = record { leading = refl; no_instruction = refl; permission_is = refl }
permission_name E = record { leading = refl; no_instruction = refl; permission_is = refl }
permission_name RWX = record { leading = refl; no_instruction = refl; permission_is = refl }
permission_name RWLX = record { leading = refl; no_instruction = refl; permission_is = refl }

capability_begun : (ls : List (List ℕ)) (p : Permission) (w rest : List ℕ) → Named p w → Ends rest
    → word_at ls (w ++ rest) ≡ capability_at ls p rest (length (w ++ rest))
capability_begun ls p w rest n t =
    let s = leads_solid w n.leading in
    let q = solid_plain w s in
    simp (skipped_word w rest s, front_word w rest q t, n.no_instruction, n.permission_is, behind_word w rest q t)

abbrev locality_text : Locality → List ℕ
locality_text l = named locality_names (locality_code l)

locality_solid : (l : Locality) → solid (locality_text l) ≡ true
locality_solid Global = refl
locality_solid Local = refl

locality_says : (l : Locality) → locality_named (place_of locality_names (locality_text l)) ≡ Some l
locality_says Global = refl
locality_says Local = refl

locality_read : (l : Locality) (tail : List ℕ) → Ends tail → locality_place (32 ∷ (locality_text l ++ tail)) ≡ got l tail
locality_read l tail t =
    taken_word (λ (w : List ℕ). locality_named (place_of locality_names w)) l locality_expected (locality_text l) tail
    (locality_solid l) t (locality_says l)

-- What follows the permission.
abbrev bounds_text : Cap → List ℕ → List ℕ
bounds_text c tail =
    32 ∷ (locality_text c.locality ++ (32 ∷ (decimal c.base ++ (32 ∷ (decimal c.end ++ (32 ∷ (decimal c.cursor ++ tail)))))))

capability_split : (c : Cap) (tail : List ℕ) → capability_text c ++ tail ≡ permission_text c.permission ++ bounds_text c tail
capability_split c tail = simp append_assoc

bounds_read : (ls : List (List ℕ)) (c : Cap) (tail : List ℕ) (left : ℕ) → Exists (capability c) → Ends tail
    → capability_at ls c.permission (bounds_text c tail) left ≡ got (capability c) tail
bounds_read ls c tail left h t =
    let cursor = address_read ls c.cursor tail h.2 t in
    let end = address_read ls c.end (32 ∷ (decimal c.cursor ++ tail)) h.1 refl in
    let base = address_read ls c.base (32 ∷ (decimal c.end ++ (32 ∷ (decimal c.cursor ++ tail)))) h.0 refl in
    let locality = locality_read c.locality (32 ∷ (decimal c.base ++ (32 ∷ (decimal c.end ++ (32 ∷ (decimal c.cursor ++ tail)))))) refl in
    simp (locality, base, end, cursor, le-leb c.base 65536 h.0, le-leb c.end 65536 h.1, le-leb c.cursor 65536 h.2)

capability_reads : (ls : List (List ℕ)) (c : Cap) (tail : List ℕ) → Exists (capability c) → Ends tail
    → word_at ls (capability_text c ++ tail) ≡ got (capability c) tail
capability_reads ls c tail h t =
    ap (word_at ls) (capability_split c tail)
    ∙ capability_begun ls c.permission (permission_text c.permission) (bounds_text c tail) (permission_name c.permission) refl
    ∙ bounds_read ls c tail _ h t

pub word_reads : (ls : List (List ℕ)) (w : Word) (tail : List ℕ) → Exists w → Ends tail → word_at ls (word_text w ++ tail) ≡ got w tail
word_reads ls (integer z) tail h t = integer_reads ls z tail (word_fits z h) t
word_reads ls (capability c) tail h t = capability_reads ls c tail h t

-- D, A and B of an instruction, where it has them.
abbrev part : Bool → List ℕ → List ℕ
part h w = cond h (codes " " ++ w) []

part_ends : (h : Bool) (w tail : List ℕ) → Ends tail → Ends (part h w ++ tail)
part_ends true w tail t = refl
part_ends false w tail t = t

d_read : (h : Bool) (n : ℕ) (tail : List ℕ) → n < 16 → Ends tail
    → cond h (register_at (part h (register_text n) ++ tail)) (got 0 (part h (register_text n) ++ tail)) ≡ got (cond h n 0) tail
d_read true n tail l t = register_read n tail l t
d_read false n tail l t = refl

b_read : (ls : List (List ℕ)) (h : Bool) (x : Operand) (tail : List ℕ) → Fits x → Ends tail
    → cond h (operand_at ls (part h (operand_text x) ++ tail)) (got unused (part h (operand_text x) ++ tail)) ≡ got (cond h x unused) tail
b_read ls true x tail f t = operand_read ls x tail f t
b_read ls false x tail f t = refl

-- Where A has to be a register, it is one.
abbrev Agrees : Bool → Bool → Operand → Type 0
Agrees false h x = Unit {0}
Agrees true false x = ⊥
Agrees true true (Register n) = Unit {0}
Agrees true true (Constant z) = ⊥

a_read : (ls : List (List ℕ)) (r h : Bool) (x : Operand) (tail : List ℕ) → Agrees r h x → Fits x → Ends tail
    → cond r (register_only (register_at (part h (operand_text x) ++ tail)))
    (cond h (operand_at ls (part h (operand_text x) ++ tail)) (got unused (part h (operand_text x) ++ tail)))
    ≡ got (cond h x unused) tail
a_read ls false h x tail g f t = b_read ls h x tail f t
a_read ls true false x tail g f t = absurd g
a_read ls true true (Register n) tail g f t = ap register_only (register_read n tail (omega (arith, leb-true n 15 f.register)) t)
a_read ls true true (Constant z) tail g f t = absurd g

abbrev parts_behind : Parts → List ℕ → List ℕ
parts_behind p tail =
    part (has_d p.opcode) (register_text p.d) ++ (part (has_a p.opcode) (operand_text p.a)
    ++ (part (has_b p.opcode) (operand_text p.b) ++ tail))

parts_read : (ls : List (List ℕ)) (p : Parts) (tail : List ℕ) (left : ℕ) → Accepted p → Agrees (register_a p.opcode) (has_a p.opcode) p.a
    → Ends tail
    → instruction_at ls p.opcode (parts_behind p tail) left
    ≡ instruction_word
    (made_of (form_of p.opcode) (cond (has_d p.opcode) p.d 0) (cond (has_a p.opcode) p.a unused) (cond (has_b p.opcode) p.b unused))
    tail left
parts_read ls p tail left s g t =
    let b_ends = part_ends (has_b p.opcode) (operand_text p.b) tail t in
    let b_tail = part (has_b p.opcode) (operand_text p.b) ++ tail in
    let a_tail = part (has_a p.opcode) (operand_text p.a) ++ b_tail in
    let a_ends = part_ends (has_a p.opcode) (operand_text p.a) b_tail b_ends in
    let d = d_read (has_d p.opcode) p.d a_tail (omega (arith, s.d)) a_ends in
    let a = a_read ls (register_a p.opcode) (has_a p.opcode) p.a b_tail g s.a b_ends in
    let b = b_read ls (has_b p.opcode) p.b tail s.b t in
    simp (d, a, b)

-- The row of an instruction in the tables of names and of opcodes.
abbrev opcode_of : Instruction → ℕ
opcode_of i = (parts_of i).opcode

abbrev name_of : Instruction → List ℕ
name_of i = named instruction_names (opcode_of i - 1)

record Row (i : Instruction) : Type 0 where
  leading : leads (name_of i) ≡ true
  place : place_of instruction_names (name_of i) ≡ Some (opcode_of i - 1)
  next : opcode_of i - 1 + 1 ≡ opcode_of i
  agrees : Agrees (register_a (opcode_of i)) (has_a (opcode_of i)) (parts_of i).a
  makes : made_of (form_of (opcode_of i)) (cond (has_d (opcode_of i)) (parts_of i).d 0) (cond (has_a (opcode_of i)) (parts_of i).a unused)
      (cond (has_b (opcode_of i)) (parts_of i).b unused) ≡ Some i

row : (i : Instruction) → Row i
row Fail = record { leading = refl; place = refl; next = refl; agrees = tt; makes = refl }
row Halt = record { leading = refl; place = refl; next = refl; agrees = tt; makes = refl }
row (Jmp d) = record { leading = refl; place = refl; next = refl; agrees = tt; makes = refl }
row (Jnz d a) = record { leading = refl; place = refl; next = refl; agrees = tt; makes = refl }
row (Move d a) = record { leading = refl; place = refl; next = refl; agrees = tt; makes = refl }
row (Load d a) = record { leading = refl; place = refl; next = refl; agrees = tt; makes = refl }
row (Store d a) = record { leading = refl; place = refl; next = refl; agrees = tt; makes = refl }
row (Plus d a b) = record { leading = refl; place = refl; next = refl; agrees = tt; makes = refl }
row (Minus d a b) = record { leading = refl; place = refl; next = refl; agrees = tt; makes = refl }
row (Lt d a b) = record { leading = refl; place = refl; next = refl; agrees = tt; makes = refl }
row (Lea d a) = record { leading = refl; place = refl; next = refl; agrees = tt; makes = refl }
row (Restrict d a) = record { leading = refl; place = refl; next = refl; agrees = tt; makes = refl }
row (Subseg d a b) = record { leading = refl; place = refl; next = refl; agrees = tt; makes = refl }
row (IsPtr d a) = record { leading = refl; place = refl; next = refl; agrees = tt; makes = refl }
row (GetP d a) = record { leading = refl; place = refl; next = refl; agrees = tt; makes = refl }
row (GetL d a) = record { leading = refl; place = refl; next = refl; agrees = tt; makes = refl }
row (GetB d a) = record { leading = refl; place = refl; next = refl; agrees = tt; makes = refl }
row (GetE d a) = record { leading = refl; place = refl; next = refl; agrees = tt; makes = refl }
row (GetA d a) = record { leading = refl; place = refl; next = refl; agrees = tt; makes = refl }
row (Quot d a b) = record { leading = refl; place = refl; next = refl; agrees = tt; makes = refl }

instruction_split : (i : Instruction) (tail : List ℕ) → instruction_text i ++ tail ≡ name_of i ++ parts_behind (parts_of i) tail
instruction_split i tail = simp append_assoc

parts_end : (p : Parts) (tail : List ℕ) → Ends tail → Ends (parts_behind p tail)
parts_end p tail t =
    part_ends (has_d p.opcode) (register_text p.d) _
    (part_ends (has_a p.opcode) (operand_text p.a) _ (part_ends (has_b p.opcode) (operand_text p.b) tail t))

instruction_begun : (ls : List (List ℕ)) (i : Instruction) (rest : List ℕ) → Ends rest
    → word_at ls (name_of i ++ rest) ≡ instruction_at ls (opcode_of i) rest (length (name_of i ++ rest))
instruction_begun ls i rest t =
    let s = leads_solid (name_of i) (row i).leading in
    let q = solid_plain (name_of i) s in
    simp (skipped_word (name_of i) rest s, front_word (name_of i) rest q t, (row i).place, behind_word (name_of i) rest q t, (row i).next)

instruction_reads : (ls : List (List ℕ)) (i : Instruction) (z : ℤ) (tail : List ℕ) → packing_of i ≡ packed z → Ends tail
    → word_at ls (instruction_text i ++ tail) ≡ got (integer z) tail
instruction_reads ls i z tail h t =
    let left = length (name_of i ++ parts_behind (parts_of i) tail) in
    ap (word_at ls) (instruction_split i tail)
    ∙ instruction_begun ls i (parts_behind (parts_of i) tail) (parts_end (parts_of i) tail t)
    ∙ parts_read ls (parts_of i) tail left (accepted (parts_of i) z h).0 (row i).agrees t
    ∙ ap (λ (o : Option Instruction). instruction_word o tail left) (row i).makes
    ∙ ap (λ (q : Packing). packed_word q tail left) h

integer_cell_reads : (ls : List (List ℕ)) (z : ℤ) (r : Option Instruction) (tail : List ℕ) → unpacked z ≡ r → Exists (integer z) → Ends tail
    → word_at ls (integer_text r z ++ tail) ≡ got (integer z) tail
integer_cell_reads ls z (Some i) tail u h t = instruction_reads ls i z tail ((exactly z (unpacked z) refl i).0 u) t
integer_cell_reads ls z None tail u h t = integer_reads ls z tail (word_fits z h) t

pub cell_reads : (ls : List (List ℕ)) (w : Word) (tail : List ℕ) → Exists w → Ends tail → word_at ls (cell_text w ++ tail) ≡ got w tail
cell_reads ls (integer z) tail h t = integer_cell_reads ls z (unpacked z) tail refl h t
cell_reads ls (capability c) tail h t = capability_reads ls c tail h t

-- The first word of what is written of a machine's word begins no other statement and is no label.
pub record Begins (bytes : List ℕ) : Type 0 where
  pub starts : skipped bytes ≡ bytes
  pub some : eqb (length (front bytes)) 0 ≡ false
  pub no_budget : bytes_eq (codes "budget") (front bytes) ≡ false
  pub no_at : bytes_eq (codes "at") (front bytes) ≡ false
  pub no_register : register_in (front bytes) ≡ None
  pub no_label : colon_ends (front bytes) ≡ false

no_colon_at : (w : List ℕ) (k : ℕ) → plain w ≡ true → eqb (get_or w k 0) 58 ≡ false
no_colon_at [] k p = refl
no_colon_at (c ∷ cs) zero p = grind (arith, nat_tests)
no_colon_at (c ∷ cs) (suc k) p = no_colon_at cs k (and_parts (plain_byte c) (plain cs) p).1

no_colon : (w : List ℕ) → plain w ≡ true → colon_ends w ≡ false
no_colon w p = no_colon_at w (length w - 1) p

none_from : {A : Type 0} (o : Option A) → not (is_some o) ≡ true → o ≡ None
none_from (Some x) h = absurd (cc)
none_from None h = refl

begins : (w tail : List ℕ) → leads w ≡ true → Ends tail → Begins (w ++ tail)
begins w tail h t =
    let a = and_parts (solid w) _ h in
    let b = and_parts (not (bytes_eq (codes "budget") w)) _ a.1 in
    let c = and_parts (not (bytes_eq (codes "at") w)) _ b.1 in
    let p = solid_plain w a.0 in
    let f = front_word w tail p t in
    record {
      starts = skipped_word w tail a.0;
      some = rw f (grind (arith, nat_tests, (and_parts (plain w) (leb 1 (length w)) a.0).1));
      no_budget = rw f (not-true _ b.0);
      no_at = rw f (not-true _ c.0);
      no_register = rw f (none_from (register_in w) c.1);
      no_label = rw f (no_colon w p);
    }

signed_leads : (z : ℤ) → fits_word z ≡ true → leads (signed_decimal z) ≡ true
signed_leads z h =
    let l = signed_low z h in
    simp (signed_solid z h, low_other (codes "budget") (signed_decimal z) refl l, low_other (codes "at") (signed_decimal z) refl l, low_no_register (signed_decimal z) l)

integer_cell_begins : (z : ℤ) (r : Option Instruction) (tail : List ℕ) → Exists (integer z) → Ends tail → Begins (integer_text r z ++ tail)
integer_cell_begins z (Some i) tail h t =
    subst Begins (sym (instruction_split i tail)) (begins (name_of i) (parts_behind (parts_of i) tail) (row i).leading (parts_end (parts_of i) tail t))
integer_cell_begins z None tail h t = begins (signed_decimal z) tail (signed_leads z (word_fits z h)) t

pub cell_begins : (w : Word) (tail : List ℕ) → Exists w → Ends tail → Begins (cell_text w ++ tail)
cell_begins (integer z) tail h t = integer_cell_begins z (unpacked z) tail h t
cell_begins (capability c) tail h t =
    subst Begins (sym (capability_split c tail)) (begins (permission_text c.permission) (bounds_text c tail) (permission_name c.permission).leading refl)

-- No line feed in what is written.
abbrev pub NoFeed : List ℕ → Type 0
NoFeed [] = Unit {0}
NoFeed (c ∷ cs) = (eqb c 10 ≡ false) × NoFeed cs

pub no_feed_append : (xs ys : List ℕ) → NoFeed xs → NoFeed ys → NoFeed (xs ++ ys)
no_feed_append [] ys p q = q
no_feed_append (x ∷ xs) ys p q = (p.0, no_feed_append xs ys p.1 q)

no_feed_plain : (w : List ℕ) → plain w ≡ true → NoFeed w
no_feed_plain [] p = tt
no_feed_plain (c ∷ cs) p =
    (grind (arith, nat_tests), no_feed_plain cs (and_parts (plain_byte c) (plain cs) p).1)

no_feed_solid : (w : List ℕ) → solid w ≡ true → NoFeed w
no_feed_solid w s = no_feed_plain w (solid_plain w s)

no_feed_leads : (w : List ℕ) → leads w ≡ true → NoFeed w
no_feed_leads w h = no_feed_solid w (leads_solid w h)

pub no_feed_decimal : (n : ℕ) → n < 2 ^ 64 → NoFeed (decimal n)
no_feed_decimal n h = no_feed_plain (decimal n) (decimal_plain n h)

-- A word behind a space, and what follows it.
no_feed_next : (w rest : List ℕ) → solid w ≡ true → NoFeed rest → NoFeed (32 ∷ (w ++ rest))
no_feed_next w rest s h = (refl, no_feed_append w rest (no_feed_solid w s) h)

no_feed_capability : (c : Cap) → Exists (capability c) → NoFeed (capability_text c)
no_feed_capability c h =
    no_feed_append (permission_text c.permission) _ (no_feed_leads (permission_text c.permission) (permission_name c.permission).leading)
    (no_feed_next (locality_text c.locality) _ (locality_solid c.locality)
    (no_feed_next (decimal c.base) _ (decimal_solid c.base (omega (arith, h.0)))
    (no_feed_next (decimal c.end) _ (decimal_solid c.end (omega (arith, h.1)))
    (refl, no_feed_decimal c.cursor (omega (arith, h.2))))))

pub no_feed_word : (w : Word) → Exists w → NoFeed (word_text w)
no_feed_word (integer z) h = no_feed_plain (signed_decimal z) (signed_plain z (word_fits z h))
no_feed_word (capability c) h = no_feed_capability c h

no_feed_part : (h : Bool) (w : List ℕ) → solid w ≡ true → NoFeed (part h w)
no_feed_part true w s = (refl, no_feed_solid w s)
no_feed_part false w s = tt

no_feed_instruction : (i : Instruction) → Accepted (parts_of i) → NoFeed (instruction_text i)
no_feed_instruction i s =
    let p = parts_of i in
    no_feed_append (name_of i) _ (no_feed_leads (name_of i) (row i).leading)
    (no_feed_append (part (has_d p.opcode) (register_text p.d)) _ (no_feed_part (has_d p.opcode) _ (register_solid p.d (omega (arith, s.d))))
    (no_feed_append (part (has_a p.opcode) (operand_text p.a)) _ (no_feed_part (has_a p.opcode) _ (operand_solid p.a s.a))
    (no_feed_part (has_b p.opcode) _ (operand_solid p.b s.b))))

no_feed_integer : (z : ℤ) (r : Option Instruction) → unpacked z ≡ r → Exists (integer z) → NoFeed (integer_text r z)
no_feed_integer z (Some i) u h = no_feed_instruction i (accepted (parts_of i) z ((exactly z (unpacked z) refl i).0 u)).0
no_feed_integer z None u h = no_feed_plain (signed_decimal z) (signed_plain z (word_fits z h))

pub no_feed_cell : (w : Word) → Exists w → NoFeed (cell_text w)
no_feed_cell (integer z) h = no_feed_integer z (unpacked z) refl h
no_feed_cell (capability c) h = no_feed_capability c h

-- The name of a register at the front of a line.
pub register_begins : (n : ℕ) (tail : List ℕ) → n < 16 → Ends tail
    → (skipped (register_text n ++ tail) ≡ register_text n ++ tail) × (front (register_text n ++ tail) ≡ register_text n)
    × (behind (register_text n ++ tail) ≡ tail) × (register_in (register_text n) ≡ Some n) × (colon_ends (register_text n) ≡ false)
register_begins n tail l t =
    let s = register_solid n l in
    let p = solid_plain (register_text n) s in (
      skipped_word (register_text n) tail s,
      front_word (register_text n) tail p t,
      behind_word (register_text n) tail p t,
      register_back n l,
      no_colon (register_text n) p,
    )
