-- The checks of an instruction, one after the other: the first that fails gives the fault, and the rest does not count.
use Rattle.std.specs.Prelude.{ℕ, ◌/◌, ◌%◌, Bool, true, false, ℤ, pos, negsuc, Some, None, Option, nat_le}
use Rattle.words.specs.declared.permission.Permission.{Permission}
use Rattle.words.specs.declared.locality.Locality.{Locality}
use Rattle.words.specs.Permissions.{permission_at}
use Rattle.words.specs.Localities.{locality_at}
use Rattle.words.specs.Word.{Cap, Word, integer, capability}
use Rattle.model.specs.declared.fault.Fault.{Fault}
use Rattle.model.specs.declared.fault.Fault.TheVariants.{WrongKind, OutOfRange, UnknownPair}
use Rattle.model.specs.Machine.{Effect, faulting}
use Rattle.model.specs.Numbers.{top}

-- The test holds, or else this fault.
unfoldable pub check : Bool → Fault → Effect → Effect
check true f rest = rest
check false f rest = faulting f

-- The word is a capability (13).
unfoldable pub with_capability : Word → (Cap → Effect) → Effect
with_capability (integer z) rest = faulting WrongKind
with_capability (capability c) rest = rest c

-- The word is an integer (13).
unfoldable pub with_integer : Word → (ℤ → Effect) → Effect
with_integer (integer z) rest = rest z
with_integer (capability c) rest = faulting WrongKind

-- Both words are integers (13), the first looked at first.
abbrev pub with_integers : Word → Word → (ℤ → ℤ → Effect) → Effect
with_integers a b rest = with_integer a (λ x. with_integer b (λ y. rest x y))

-- The integer is from 0 to 65,536 (18).
unfoldable pub with_address : ℤ → (ℕ → Effect) → Effect
with_address (pos n) rest = check (nat_le n top) OutOfRange (rest n)
with_address (negsuc n) rest = faulting OutOfRange

-- Something has this code (23).
unfoldable pub with_code : {A : Type 0} → Option A → (A → Effect) → Effect
with_code None rest = faulting UnknownPair
with_code (Some x) rest = rest x

-- The integer is four times a permission's code plus a locality's code (23).
unfoldable pub with_pair : ℤ → (Permission → Locality → Effect) → Effect
with_pair (pos n) rest = with_code (permission_at (n / 4)) (λ p. with_code (locality_at (n % 4)) (λ l. rest p l))
with_pair (negsuc n) rest = faulting UnknownPair
