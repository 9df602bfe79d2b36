-- What has a code has it for its own.
use Rattle.std.proofs.Common.{◌≡◌, ℕ, Some, arith}
use Rattle.std.proofs.lemmas.Bool.Decides.{nat_tests}
use Rattle.words.specs.declared.permission.Permission.{Permission}
use Rattle.words.specs.declared.locality.Locality.{Locality}
use Rattle.words.specs.Permissions.{permission_code, permission_at}
use Rattle.words.specs.Localities.{locality_code, locality_at}

pub permission_coded : (n : ℕ) (p : Permission) → permission_at n ≡ Some p → permission_code p ≡ n
permission_coded n p e = grind (arith, nat_tests)

pub locality_coded : (n : ℕ) (l : Locality) → locality_at n ≡ Some l → locality_code l ≡ n
locality_coded n l e = grind (arith, nat_tests)
