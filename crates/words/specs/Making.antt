-- Making a capability: what the rules give for each choice of its parts.
use Rattle.std.specs.Prelude.{ℕ, cond, ◌&&◌, Some, None, Ok, Err, Option, Result, nat_le}
use Rattle.words.specs.declared.permission.Permission.{Permission}
use Rattle.words.specs.declared.locality.Locality.{Locality}
use Rattle.words.specs.declared.capability.Capability.{Capability}
use Rattle.words.specs.declared.refusal.Refusal.{Refusal}
use Rattle.words.specs.Permissions.{permission_at}
use Rattle.words.specs.Localities.{locality_at}
use Rattle.words.specs.Word.{Cap, with_cursor, with_bounds}
use Rattle.words.specs.Refusals.{refusal_number}
use Rattle.words.specs.Meaning.{cap_of}

-- A capability, or the number of a refusal.
pub data Making : Type 0 where
  made : Cap → Making
  refused : ℕ → Making

-- What the code answered.
abbrev pub making : Result Capability Refusal → Making
making (Ok c) = made (cap_of c)
making (Err e) = refused (refusal_number e)

-- Base, end and cursor are at most 65,536, or the making is refused (3).
abbrev pub made_with : Permission → Locality → ℕ → ℕ → ℕ → Making
made_with p l b e k =
    cond (nat_le b 65536 && (nat_le e 65536 && nat_le k 65536))
    (made (record { permission = p; locality = l; base = b; end = e; cursor = k }))
    (refused 3)

-- Both codes are listed, or the making is refused (4), whatever the numbers are.
abbrev pub with_codes : Option Permission → Option Locality → ℕ → ℕ → ℕ → Making
with_codes (Some p) (Some l) b e k = made_with p l b e k
with_codes (Some p) None b e k = refused 4
with_codes None l b e k = refused 4

abbrev pub made_from : ℕ → ℕ → ℕ → ℕ → ℕ → Making
made_from permission locality b e k = with_codes (permission_at permission) (locality_at locality) b e k

-- The same capability with another cursor, which is at most 65,536 (3).
abbrev pub moved_to : Cap → ℕ → Making
moved_to c k = cond (nat_le k 65536) (made (with_cursor c k)) (refused 3)

-- The same capability with other bounds, which are at most 65,536 (3).
abbrev pub bounded_by : Cap → ℕ → ℕ → Making
bounded_by c b e = cond (nat_le b 65536 && nat_le e 65536) (made (with_bounds c b e)) (refused 3)
