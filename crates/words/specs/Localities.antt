-- Localities and their codes.
use Rattle.std.specs.Prelude.{ℕ, Bool, true, false, cond, Some, None, Option, ◌==◌}
use Rattle.words.specs.declared.locality.Locality.{Locality}
use Rattle.words.specs.declared.locality.Locality.TheVariants.{Global, Local}

abbrev pub locality_code : Locality → ℕ
locality_code Global = 0
locality_code Local = 1

-- The locality that has a code, if any has.
abbrev pub locality_at : ℕ → Option Locality
locality_at n = cond (n == 0) (Some Global) (cond (n == 1) (Some Local) None)

abbrev pub local : Locality → Bool
local Global = false
local Local = true
