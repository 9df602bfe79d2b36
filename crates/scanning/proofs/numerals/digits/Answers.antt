use Rattle.std.proofs.Common.{ℕ, ◌^◌, ◌<◌, ◌≤◌, arith}
use Rattle.std.proofs.Math.Nat.{pow-le-pow_right}
use Rattle.std.proofs.lemmas.Grind.{common_steps}
use Rattle.scanning.proofs.numerals.digits.Goals as goal

-- A number of at most eighteen digits leaves room for one more.
room : (n i : ℕ) → n < 10 ^ i → i < 19 → n < 10 ^ 18
room n i small few =
    let top : 10 ^ i ≤ 10 ^ 18 = pow-le-pow_right (omega arith) {j = 18} (omega arith) in
    omega arith

pub overflow_mul-number : goal.overflow_mul-number
overflow_mul-number c = omega (arith, room _ _ c.loop-byte.invariant.small (omega arith))

pub overflow_add-number : goal.overflow_add-number
overflow_add-number c = grind (arith, common_steps, room _ _ c.loop-byte.invariant.small (omega arith))
