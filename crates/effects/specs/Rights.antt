-- The rights that a number names.
use Rattle.std.specs.Prelude.{◌/◌, ◌%◌, ℤ, pos, negsuc, Some, None, Option}
use Rattle.words.specs.declared.permission.Permission.{Permission}
use Rattle.words.specs.declared.locality.Locality.{Locality}
use Rattle.words.specs.declared.pair.Pair.{Pair}
use Rattle.words.specs.Permissions.{permission_at}
use Rattle.words.specs.Localities.{locality_at}

-- Both, where there are both.
abbrev pub paired : Option Permission → Option Locality → Option (Pair Permission Locality)
paired (Some p) (Some l) = Some (record { first = p; second = l })
paired (Some p) None = None
paired None l = None

-- Four times a permission's code plus a locality's code.
abbrev pub rights_at : ℤ → Option (Pair Permission Locality)
rights_at (pos n) = paired (permission_at (n / 4)) (locality_at (n % 4))
rights_at (negsuc n) = None
