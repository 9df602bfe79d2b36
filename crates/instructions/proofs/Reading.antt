-- The table, read from both sides: fields make an instruction exactly when they hold its parts.
use Rattle.std.proofs.Common.{◌≡◌, ℕ, true, false, cond, eqb, Some, None, Option, sym, refl, ap, ◌∙◌, subst, ⊎_elim, arith}
use Rattle.std.proofs.lemmas.Bool.Decides.{nat_tests}
use Rattle.std.proofs.lemmas.Bool.{cases_Bool, eqb-true}
use Rattle.instructions.specs.declared.instruction.Operand.{Operand}
use Rattle.instructions.specs.declared.instruction.Operand.TheVariants.{Register, Constant}
use Rattle.instructions.specs.declared.instruction.Instruction.{Instruction}
use Rattle.instructions.specs.declared.instruction.Instruction.TheVariants.{Fail, Halt, Jmp, Jnz, Move, Load, Store, Plus, Minus, Lt, Lea, Restrict, Subseg, IsPtr, GetP, GetL, GetB, GetE, GetA, Quot}
use Rattle.instructions.specs.declared.fields.Fields.{Fields}
use Rattle.instructions.specs.Operands.{flagged, operand_at}
use Rattle.instructions.specs.declared.parts.Parts.{Parts}
use Rattle.instructions.specs.Table.{Form, no_instruction, alone, with_d, with_d_a, with_d_register, with_d_a_b, form_of, parts, parts_of, unused}
use Rattle.instructions.specs.Forms.{well_formed, made, made_with, filled, instruction_of}

-- The fields hold these parts.
pub record Holds (f : Fields) (p : Parts) : Type 0 where
  pub opcode : f.opcode ≡ p.opcode
  pub d : f.d ≡ p.d
  pub a : operand_at f.a ≡ Some p.a
  pub b : operand_at f.b ≡ Some p.b

-- Eleven bits hold the operand of an unused field exactly when they are zero, and a register only with the flag.
zero_bits : (n : ℕ) → operand_at n ≡ Some unused → eqb n 0 ≡ true
zero_bits n h = grind (arith, nat_tests)

zero_operand : (n : ℕ) → eqb n 0 ≡ true → operand_at n ≡ Some unused
zero_operand n h = ap operand_at (eqb-true n 0 h)

register_flag : (n r : ℕ) → operand_at n ≡ Some (Register r) → flagged n ≡ true
register_flag n r h = grind (arith, nat_tests)

-- From the parts to the instruction: one lemma a form, over the opcode and what it makes.
module _ (f : Fields) (k : ℕ) where
  alone_from : (i : Instruction) → Holds f (parts k 0 unused unused) → filled (alone i) f ≡ Some i
  alone_from i h =
      let d : eqb f.d 0 ≡ true = grind (arith, nat_tests, h.d) in
      simp (d, zero_bits f.a h.a, zero_bits f.b h.b, h.a, h.b)

  d_from : (make : ℕ → Instruction) (d : ℕ) → Holds f (parts k d unused unused) → filled (with_d make) f ≡ Some (make d)
  d_from make d h = simp (zero_bits f.a h.a, zero_bits f.b h.b, h.a, h.b, h.d)

  d_a_from : (make : ℕ → Operand → Instruction) (d : ℕ) (a : Operand)
      → Holds f (parts k d a unused) → filled (with_d_a make) f ≡ Some (make d a)
  d_a_from make d a h = simp (zero_bits f.b h.b, h.a, h.b, h.d)

  d_register_from : (make : ℕ → ℕ → Instruction) (d a : ℕ)
      → Holds f (parts k d (Register a) unused) → filled (with_d_register make) f ≡ Some (make d a)
  d_register_from make d a h = simp (zero_bits f.b h.b, h.a, h.b, h.d) (simp (register_flag f.a a h.a))

  d_a_b_from : (make : ℕ → Operand → Operand → Instruction) (d : ℕ) (a b : Operand)
      → Holds f (parts k d a b) → filled (with_d_a_b make) f ≡ Some (make d a b)
  d_a_b_from make d a b h = simp (h.a, h.b, h.d)

row_from : (f : Fields) (i : Instruction) → Holds f (parts_of i) → filled (form_of (parts_of i).opcode) f ≡ Some i
row_from f Fail h = alone_from f 1 Fail h
row_from f Halt h = alone_from f 2 Halt h
row_from f (Jmp d) h = d_from f 3 Jmp d h
row_from f (Jnz d a) h = d_a_from f 4 Jnz d a h
row_from f (Move d a) h = d_a_from f 5 Move d a h
row_from f (Load d a) h = d_register_from f 6 Load d a h
row_from f (Store d a) h = d_a_from f 7 Store d a h
row_from f (Plus d a b) h = d_a_b_from f 8 Plus d a b h
row_from f (Minus d a b) h = d_a_b_from f 9 Minus d a b h
row_from f (Lt d a b) h = d_a_b_from f 10 Lt d a b h
row_from f (Lea d a) h = d_a_from f 11 Lea d a h
row_from f (Restrict d a) h = d_a_from f 12 Restrict d a h
row_from f (Subseg d a b) h = d_a_b_from f 13 Subseg d a b h
row_from f (IsPtr d a) h = d_a_from f 14 IsPtr d a h
row_from f (GetP d a) h = d_register_from f 15 GetP d a h
row_from f (GetL d a) h = d_register_from f 16 GetL d a h
row_from f (GetB d a) h = d_register_from f 17 GetB d a h
row_from f (GetE d a) h = d_register_from f 18 GetE d a h
row_from f (GetA d a) h = d_register_from f 19 GetA d a h
row_from f (Quot d a b) h = d_a_b_from f 20 Quot d a b h

pub from_parts : (f : Fields) (i : Instruction) → Holds f (parts_of i) → instruction_of f ≡ Some i
from_parts f i h = ap (λ (n : ℕ). filled (form_of n) f) h.opcode ∙ row_from f i h

-- Fields that make an instruction are well-formed and hold two operands, of which the form makes it.
record Opened (form : Form) (f : Fields) (i : Instruction) : Type 0 where
  well : well_formed form f ≡ true
  a : Operand
  b : Operand
  a_is : operand_at f.a ≡ Some a
  b_is : operand_at f.b ≡ Some b
  made_is : made form f.d a b ≡ Some i

with_operands : (form : Form) (f : Fields) (i : Instruction) (x y : Option Operand) → well_formed form f ≡ true
    → operand_at f.a ≡ x → operand_at f.b ≡ y → made_with form f.d x y ≡ Some i → Opened form f i
with_operands form f i (Some x) (Some y) w p q h = record { well = w; a = x; b = y; a_is = p; b_is = q; made_is = h }
with_operands form f i (Some x) None w p q h = let z : ◌≡◌ {A = ℕ} 0 1 = cc in absurd (omega arith)
with_operands form f i None y w p q h = let z : ◌≡◌ {A = ℕ} 0 1 = cc in absurd (omega arith)

opened : (form : Form) (f : Fields) (i : Instruction) → filled form f ≡ Some i → Opened form f i
opened form f i h =
    ⊎_elim
    (λ (w : well_formed form f ≡ true). with_operands form f i (operand_at f.a) (operand_at f.b) w refl refl (simp w at h))
    (λ (w : well_formed form f ≡ false).
    let n : None ≡ Some i = simp w at h in
    let z : ◌≡◌ {A = ℕ} 0 1 = cc in
    absurd (omega arith))
    (cases_Bool (well_formed form f))

-- The fields hold the parts of any instruction that the form makes of them.
record Reads (f : Fields) (i : Instruction) (form : Form) : Type 0 where
  reads : filled form f ≡ Some i → Holds f (parts_of i)

-- From the instruction to its parts: one lemma a form, again.
module _ (f : Fields) (i : Instruction) (k : ℕ) (o : f.opcode ≡ k) where
  alone_to : (j : Instruction) → parts_of j ≡ parts k 0 unused unused → Reads f i (alone j)
  alone_to j e = record {
    reads = λ h.
        let g = opened (alone j) f i h in
        let same : j ≡ i = cc in
        let d : f.d ≡ 0 = grind (arith, nat_tests, g.well) in
        let a : eqb f.a 0 ≡ true = grind (arith, g.well) in
        let b : eqb f.b 0 ≡ true = grind (arith, g.well) in
        subst (Holds f) (sym e ∙ ap parts_of same) (record { opcode = o; d = d; a = zero_operand f.a a; b = zero_operand f.b b });
  }

  d_to : (make : ℕ → Instruction) → ((d : ℕ) → parts_of (make d) ≡ parts k d unused unused) → Reads f i (with_d make)
  d_to make e = record {
    reads = λ h.
        let g = opened (with_d make) f i h in
        let same : make f.d ≡ i = cc in
        let a : eqb f.a 0 ≡ true = grind (arith, g.well) in
        let b : eqb f.b 0 ≡ true = grind (arith, g.well) in
        subst (Holds f) (sym (e f.d) ∙ ap parts_of same) (record { opcode = o; d = refl; a = zero_operand f.a a; b = zero_operand f.b b });
  }

  d_a_to : (make : ℕ → Operand → Instruction) → ((d : ℕ) (a : Operand) → parts_of (make d a) ≡ parts k d a unused) → Reads f i (with_d_a make)
  d_a_to make e = record {
    reads = λ h.
        let g = opened (with_d_a make) f i h in
        let same : make f.d g.a ≡ i = cc in
        subst (Holds f) (sym (e f.d g.a) ∙ ap parts_of same) (record { opcode = o; d = refl; a = g.a_is; b = zero_operand f.b g.well });
  }

  d_register_to : (make : ℕ → ℕ → Instruction) → ((d a : ℕ) → parts_of (make d a) ≡ parts k d (Register a) unused) → Reads f i (with_d_register make)
  d_register_to make e = record {
    reads = λ h.
        let g = opened (with_d_register make) f i h in
        let b : eqb f.b 0 ≡ true = grind (arith, g.well) in
        by_operand g.a g.b g.a_is (zero_operand f.b b) g.made_is;
  }
    where
      by_operand : (a b : Operand) → operand_at f.a ≡ Some a → operand_at f.b ≡ Some unused
          → made (with_d_register make) f.d a b ≡ Some i → Holds f (parts_of i)
      by_operand (Register r) b p q m =
          let same : make f.d r ≡ i = cc in
          subst (Holds f) (sym (e f.d r) ∙ ap parts_of same) (record { opcode = o; d = refl; a = p; b = q })
      by_operand (Constant c) b p q m = let z : ◌≡◌ {A = ℕ} 0 1 = cc in absurd (omega arith)

  d_a_b_to : (make : ℕ → Operand → Operand → Instruction) → ((d : ℕ) (a b : Operand) → parts_of (make d a b) ≡ parts k d a b) → Reads f i (with_d_a_b make)
  d_a_b_to make e = record {
    reads = λ h.
        let g = opened (with_d_a_b make) f i h in
        let same : make f.d g.a g.b ≡ i = cc in
        subst (Holds f) (sym (e f.d g.a g.b) ∙ ap parts_of same) (record { opcode = o; d = refl; a = g.a_is; b = g.b_is });
  }

none_to : (f : Fields) (i : Instruction) → Reads f i no_instruction
none_to f i = record { reads = λ (h : None ≡ Some i). let z : ◌≡◌ {A = ℕ} 0 1 = cc in absurd (omega arith) }

-- One row of the table, and the rows below it.
step : (f : Fields) (i : Instruction) (k : ℕ) {form others : Form}
    → (f.opcode ≡ k → Reads f i form) → Reads f i others → Reads f i (cond (eqb f.opcode k) form others)
step f i k here below = record {
  reads = λ h.
      ⊎_elim
      (λ (t : eqb f.opcode k ≡ true). (here (eqb-true f.opcode k t)).reads (simp t at h))
      (λ (t : eqb f.opcode k ≡ false). below.reads (simp t at h))
      (cases_Bool (eqb f.opcode k));
}

pub to_parts : (f : Fields) (i : Instruction) → instruction_of f ≡ Some i → Holds f (parts_of i)
to_parts f i =
    (step f i 1 (λ o. alone_to f i 1 o Fail refl)
    (step f i 2 (λ o. alone_to f i 2 o Halt refl)
    (step f i 3 (λ o. d_to f i 3 o Jmp (λ d. refl))
    (step f i 4 (λ o. d_a_to f i 4 o Jnz (λ d a. refl))
    (step f i 5 (λ o. d_a_to f i 5 o Move (λ d a. refl))
    (step f i 6 (λ o. d_register_to f i 6 o Load (λ d a. refl))
    (step f i 7 (λ o. d_a_to f i 7 o Store (λ d a. refl))
    (step f i 8 (λ o. d_a_b_to f i 8 o Plus (λ d a b. refl))
    (step f i 9 (λ o. d_a_b_to f i 9 o Minus (λ d a b. refl))
    (step f i 10 (λ o. d_a_b_to f i 10 o Lt (λ d a b. refl))
    (step f i 11 (λ o. d_a_to f i 11 o Lea (λ d a. refl))
    (step f i 12 (λ o. d_a_to f i 12 o Restrict (λ d a. refl))
    (step f i 13 (λ o. d_a_b_to f i 13 o Subseg (λ d a b. refl))
    (step f i 14 (λ o. d_a_to f i 14 o IsPtr (λ d a. refl))
    (step f i 15 (λ o. d_register_to f i 15 o GetP (λ d a. refl))
    (step f i 16 (λ o. d_register_to f i 16 o GetL (λ d a. refl))
    (step f i 17 (λ o. d_register_to f i 17 o GetB (λ d a. refl))
    (step f i 18 (λ o. d_register_to f i 18 o GetE (λ d a. refl))
    (step f i 19 (λ o. d_register_to f i 19 o GetA (λ d a. refl))
    (step f i 20 (λ o. d_a_b_to f i 20 o Quot (λ d a b. refl))
    (none_to f i))))))))))))))))))))).reads
