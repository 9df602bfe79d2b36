-- An integer unpacks to an instruction exactly when the instruction packs into it.
use Rattle.std.proofs.Common.{◌≡◌, ℕ, ℤ, pos, negsuc, Some, Option, sym, ap, ◌∙◌, arith}
use Rattle.instructions.specs.declared.instruction.Instruction.{Instruction}
use Rattle.instructions.specs.Table.{parts_of}
use Rattle.instructions.specs.Packing.{packed, packing_of, joined, fields_of, unpacked, Unpacks}
use Rattle.instructions.proofs.Reading.{from_parts, to_parts}
use Rattle.instructions.proofs.Places.{joined_holds, held_joins}

back : (i : Instruction) (z : ℤ) → packing_of i ≡ packed z → unpacked z ≡ Some i
back i z h =
    let k = joined_holds (parts_of i) z h in
    ap unpacked k.0 ∙ from_parts (fields_of (joined (parts_of i))) i k.1

there : (z : ℤ) (i : Instruction) → unpacked z ≡ Some i → packing_of i ≡ packed z
there (pos n) i h = held_joins n (parts_of i) (to_parts (fields_of n) i h)
there (negsuc n) i h = let e : ◌≡◌ {A = ℕ} 0 1 = cc in absurd (omega arith)

pub exactly : (z : ℤ) (r : Option Instruction) → r ≡ unpacked z → Unpacks z r
exactly z r e i = (λ h. there z i (sym e ∙ h), λ h. e ∙ back i z h)
