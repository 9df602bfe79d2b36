-- The machine's arithmetic, on integers that do not wrap.
use Rattle.std.specs.Prelude.{ℕ, ◌+◌, ◌*◌, ◌/◌, ◌^◌, Bool, true, false, cond, ℤ, pos, neg_ℤ, nat_lt, unsigned_abs}
use Rattle.std.specs.Int.Signed.{mag, non_neg}

-- The largest base, end and cursor.
abbrev pub top : ℕ
top = 65536

-- The integer is one of 32 bits, signed: from −2 ^ 31 up to and without 2 ^ 31 (`mag` is n both for n and for −(n + 1)).
abbrev pub fits_word : ℤ → Bool
fits_word z = nat_lt (mag z) (2 ^ 31)

-- The quotient of two magnitudes to the nearest whole number, a half upwards.
abbrev pub rounded : ℕ → ℕ → ℕ
rounded a b = (2 * a + b) / (2 * b)

-- The quotient of two integers to the nearest integer, halves away from zero: the magnitudes' quotient, negative where one of the two is.
abbrev pub quotient : ℤ → ℤ → ℤ
quotient x y =
    let q : ℕ = rounded (unsigned_abs x) (unsigned_abs y) in
    cond (non_neg x) (cond (non_neg y) (pos q) (neg_ℤ (pos q))) (cond (non_neg y) (neg_ℤ (pos q)) (pos q))

abbrev pub one_if : Bool → ℕ
one_if true = 1
one_if false = 0
