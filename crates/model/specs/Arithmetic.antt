-- What the machine's arithmetic comes to, in the words of arithmetic: which integers are words, which one a quotient is, and which number names a pair.
use Rattle.std.specs.Prelude.{◌≡◌, ◌+◌, ◌*◌, ◌<◌, ◌≤◌, ◌≢◌, ℤ, pos, negsuc, ◌-ℤ◌, ◌*ℤ◌, ◌≤ℤ◌, unsigned_abs}
use Rattle.words.specs.declared.permission.Permission.{Permission}
use Rattle.words.specs.declared.locality.Locality.{Locality}
use Rattle.words.specs.Permissions.{permission_code}
use Rattle.words.specs.Localities.{locality_code}
use Rattle.words.specs.Orders.{Exactly}
use Rattle.model.specs.declared.fault.Fault.TheVariants.{UnknownPair}
use Rattle.model.specs.Machine.{Effect, faulting}
use Rattle.model.specs.Numbers.{fits_word, quotient}
use Rattle.model.specs.Checks.{with_pair}

-- The integers of 32 bits are those from −2,147,483,648 to 2,147,483,647.
abbrev pub WordsOf32Bits : Type 0
WordsOf32Bits = (z : ℤ) → Exactly (fits_word z) ((negsuc 2147483647 ≤ℤ z) × (z ≤ℤ pos 2147483647))

-- The integer q is nearest to x / y, halves away from zero: twice the distance of q * y from x is at most |y|, and where it is |y|, q * y is further from
-- zero than x.
pub record Nearest (x y q : ℤ) : Type 0 where
  pub near : 2 * unsigned_abs (x -ℤ q *ℤ y) ≤ unsigned_abs y
  pub away : 2 * unsigned_abs (x -ℤ q *ℤ y) ≡ unsigned_abs y → unsigned_abs x < unsigned_abs (q *ℤ y)

-- The quotient is nearest, and no other integer is.
abbrev pub QuotientNearest : Type 0
QuotientNearest =
    (x y : ℤ) → y ≢ pos 0 →
    Nearest x y (quotient x y) × ((q : ℤ) → Nearest x y q → q ≡ quotient x y)

-- Four times a permission's code plus a locality's names the two, and any other integer names no pair.
abbrev pub pair_number : Permission → Locality → ℤ
pair_number p l = pos (4 * permission_code p + locality_code l)

abbrev pub PairsByNumber : Type 0
PairsByNumber =
    (z : ℤ) (rest : Permission → Locality → Effect) →
    ((p : Permission) (l : Locality) → z ≡ pair_number p l → with_pair z rest ≡ rest p l) ×
    (((p : Permission) (l : Locality) → z ≢ pair_number p l) → with_pair z rest ≡ faulting UnknownPair)
