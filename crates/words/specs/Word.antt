-- Words as the rules speak of them: plain values, with no proofs in them.
use Rattle.std.specs.Prelude.{ℕ, ◌<◌, ◌≤◌, Bool, false, ◌&&◌, List, ℤ, pos, negsuc, nat_le, nat_lt, slice_index_or}
use Rattle.words.specs.declared.permission.Permission.{Permission}
use Rattle.words.specs.declared.locality.Locality.{Locality}
use Rattle.words.specs.Localities.{local}

-- A capability: what it allows, whether it may be stored anywhere, the addresses from `base` up to and without `end`, and the one that it points at.
pub record Cap : Type 0 where
  pub permission : Permission
  pub locality : Locality
  pub base : ℕ
  pub end : ℕ
  pub cursor : ℕ

-- A word is an integer or a capability.
pub data Word : Type 0 where
  integer : ℤ → Word
  capability : Cap → Word

abbrev pub zero_word : Word
zero_word = integer (pos 0)

-- The word at a place of a row (the cells, the registers, a hand); beyond its end the integer 0, which is no capability.
abbrev pub at : List Word → ℕ → Word
at row i = slice_index_or row i zero_word

-- The addresses that a capability covers, as a statement and as a test. A base above the end covers nothing.
abbrev pub Covers : Cap → ℕ → Type 0
Covers c a = (c.base ≤ a) × (a < c.end)

abbrev pub covers : Cap → ℕ → Bool
covers c a = nat_le c.base a && nat_lt a c.end

-- A Local capability. An integer is none.
abbrev pub is_local : Word → Bool
is_local (integer z) = false
is_local (capability c) = local c.locality

-- The integer 0. No other integer is, and no capability.
abbrev pub is_zero : Word → Bool
is_zero (integer (pos n)) = nat_le n 0
is_zero (integer (negsuc n)) = false
is_zero (capability c) = false

-- A capability with another cursor, another permission and locality, or other bounds.
abbrev pub with_cursor : Cap → ℕ → Cap
with_cursor c n = record { permission = c.permission; locality = c.locality; base = c.base; end = c.end; cursor = n }

abbrev pub with_rights : Cap → Permission → Locality → Cap
with_rights c p l = record { permission = p; locality = l; base = c.base; end = c.end; cursor = c.cursor }

abbrev pub with_bounds : Cap → ℕ → ℕ → Cap
with_bounds c b e = record { permission = c.permission; locality = c.locality; base = b; end = e; cursor = c.cursor }
