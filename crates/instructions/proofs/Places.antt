-- The places of the fields: parts pack into a number exactly when its fields hold them.
use Rattle.std.proofs.Common.{◌≡◌, ℕ, ◌/◌, ◌%◌, ◌^◌, ◌<◌, ◌≤◌, true, leb, ℤ, pos, negsuc, Some, refl, ap, ◌∙◌, arith}
use Rattle.std.proofs.lemmas.Bool.Decides.{nat_tests}
use Rattle.instructions.specs.declared.instruction.Operand.{Operand}
use Rattle.instructions.specs.declared.instruction.Operand.TheVariants.{Register, Constant}
use Rattle.instructions.specs.Operands.{register_fits, constant_fits, operand_bits, operand_at}
use Rattle.instructions.specs.declared.parts.Parts.{Parts}
use Rattle.instructions.specs.Packing.{packed, packing_parts, joined, fields_of}
use Rattle.instructions.proofs.Reading.{Holds}

-- An operand that can be packed.
pub record Fits (x : Operand) : Type 0 where
  pub register : register_fits x ≡ true
  pub constant : constant_fits x ≡ true

-- The eleven bits of an operand that fits hold it, and eleven bits that hold one are its bits.
bits_back : (x : Operand) → Fits x → (operand_at (operand_bits x) ≡ Some x) × (operand_bits x < 2 ^ 11)
bits_back (Register r) s = (grind (arith, nat_tests, s.register), grind (arith, nat_tests, s.register))
bits_back (Constant (pos n)) s = (grind (arith, nat_tests, s.constant), grind (arith, nat_tests, s.constant))
bits_back (Constant (negsuc n)) s = (grind (arith, nat_tests, s.constant), omega arith)

bits_there : (n : ℕ) (x : Operand) → n < 2 ^ 11 → operand_at n ≡ Some x → Fits x × (operand_bits x ≡ n)
bits_there n (Register r) l h = (record { register = grind (arith, nat_tests); constant = refl }, grind (arith, nat_tests))
bits_there n (Constant (pos m)) l h = (record { register = refl; constant = grind (arith, nat_tests) }, grind (arith, nat_tests))
bits_there n (Constant (negsuc m)) l h = (record { register = refl; constant = grind (arith, nat_tests) }, grind (arith, nat_tests))

-- Parts that packing accepts.
pub record Accepted (p : Parts) : Type 0 where
  pub d : p.d ≤ 15
  pub a : Fits p.a
  pub b : Fits p.b

pub accepted : (p : Parts) (z : ℤ) → packing_parts p ≡ packed z → Accepted p × (z ≡ pos (joined p))
accepted p z h = (
  record {
    d = grind (arith, nat_tests);
    a = record { register = grind arith; constant = grind arith };
    b = record { register = grind arith; constant = grind arith };
  },
  grind arith,
)

accepts : (p : Parts) → Accepted p → packing_parts p ≡ packed (pos (joined p))
accepts p s =
    let t : leb p.d 15 ≡ true = grind (arith, nat_tests, s.d) in
    simp (t, s.a.register, s.b.register, s.a.constant, s.b.constant)

-- The fields of the number that parts are joined into hold them.
pub joined_holds : (p : Parts) (z : ℤ) → packing_parts p ≡ packed z → (z ≡ pos (joined p)) × Holds (fields_of (joined p)) p
joined_holds p z h =
    let k = accepted p z h in
    let s = k.0 in
    let x = bits_back p.a s.a in
    let y = bits_back p.b s.b in
    let o : joined p / 2 ^ 26 ≡ p.opcode = omega (arith, x.1, y.1, s.d) in
    let d : joined p / 2 ^ 22 % 2 ^ 4 ≡ p.d = omega (arith, x.1, y.1, s.d) in
    let a : joined p / 2 ^ 11 % 2 ^ 11 ≡ operand_bits p.a = omega (arith, x.1, y.1, s.d) in
    let b : joined p % 2 ^ 11 ≡ operand_bits p.b = omega (arith, x.1, y.1, s.d) in
    (k.1, record { opcode = o; d = d; a = ap operand_at a ∙ x.0; b = ap operand_at b ∙ y.0 })

-- Parts that a number's fields hold are packed into that number.
pub held_joins : (n : ℕ) (p : Parts) → Holds (fields_of n) p → packing_parts p ≡ packed (pos n)
held_joins n p h =
    let x = bits_there (n / 2 ^ 11 % 2 ^ 11) p.a (omega arith) h.a in
    let y = bits_there (n % 2 ^ 11) p.b (omega arith) h.b in
    let e : joined p ≡ n = omega (arith, h.opcode, h.d, x.1, y.1) in
    accepts p (record { d = omega (arith, h.d); a = x.0; b = y.0 }) ∙ ap (λ (m : ℕ). packed (pos m)) e
