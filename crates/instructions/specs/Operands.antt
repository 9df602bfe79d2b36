-- Operands, and the eleven bits that hold one: a flag, set for a register, above ten bits for its number or for a signed constant.
use Rattle.std.specs.Prelude.{ℕ, ◌+◌, ◌-◌, ◌^◌, Bool, true, cond, ℤ, pos, negsuc, Some, None, Option, nat_le, nat_lt}
use Rattle.instructions.specs.declared.instruction.Operand.{Operand}
use Rattle.instructions.specs.declared.instruction.Operand.TheVariants.{Register, Constant}

-- Registers are numbered 0 to 15.
abbrev pub register_exists : ℕ → Bool
register_exists n = nat_le n 15

-- Constants are −512 to 511 (`negsuc n` is −1 − n).
abbrev pub in_range : ℤ → Bool
in_range (pos n) = nat_le n 511
in_range (negsuc n) = nat_le n 511

-- The operand names a register that exists, or none.
abbrev pub register_fits : Operand → Bool
register_fits (Register n) = register_exists n
register_fits (Constant z) = true

-- The operand is a constant in range, or none.
abbrev pub constant_fits : Operand → Bool
constant_fits (Register n) = true
constant_fits (Constant z) = in_range z

-- The two's complement of a constant in ten bits, and the constant that ten bits are the two's complement of.
abbrev pub ten_bits : ℤ → ℕ
ten_bits (pos n) = n
ten_bits (negsuc n) = 2 ^ 10 - 1 - n

abbrev pub signed : ℕ → ℤ
signed n = cond (nat_lt n (2 ^ 9)) (pos n) (negsuc (2 ^ 10 - 1 - n))

-- The eleven bits of an operand that fits: those of a register have the flag set.
abbrev pub operand_bits : Operand → ℕ
operand_bits (Register n) = 2 ^ 10 + n
operand_bits (Constant z) = ten_bits z

-- The flag of eleven bits is set.
abbrev pub flagged : ℕ → Bool
flagged n = nat_le (2 ^ 10) n

-- The operand that eleven bits hold. They hold none where they name a register that doesn't exist.
abbrev pub operand_at : ℕ → Option Operand
operand_at n =
    cond (flagged n)
    (cond (register_exists (n - 2 ^ 10)) (Some (Register (n - 2 ^ 10))) None)
    (Some (Constant (signed n)))
