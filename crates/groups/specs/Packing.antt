-- A word as a number of 64 bits. Bits are counted from 63, the most significant, down to 0.
use Rattle.std.specs.Prelude.{◌≡◌, ℕ, suc, ◌+◌, ◌-◌, ◌*◌, ◌/◌, ◌%◌, ◌^◌, ◌<◌, ◌≤◌, cond, ◌&&◌, ℤ, pos, negsuc, Some, None, Option, ◌==◌, nat_lt}
use Rattle.words.specs.Permissions.{permission_code}
use Rattle.words.specs.Localities.{locality_code}
use Rattle.words.specs.Word.{Cap, Word, integer, capability, zero_word}
use Rattle.words.specs.Making.{Making, made, refused, made_from}

-- The two's complement of an integer in 32 bits, and the integer that 32 bits stand for.
abbrev pub complement : ℤ → ℕ
complement (pos n) = n
complement (negsuc n) = 2 ^ 32 - suc n

abbrev pub signed : ℕ → ℤ
signed n = cond (nat_lt n (2 ^ 31)) (pos n) (negsuc (2 ^ 32 - suc n))

-- The words that there are: an integer has 32 bits, and base, end and cursor of a capability are at most 65,536.
abbrev pub Exists : Word → Type 0
Exists (integer z) = (complement z < 2 ^ 32) × (signed (complement z) ≡ z)
Exists (capability c) = (c.base ≤ 65536) × (c.end ≤ 65536) × (c.cursor ≤ 65536)

-- An integer has bits 63 to 32 zero and its two's complement in 31 to 0. A capability has bit 63 set, its permission's code in 62 to 59, its locality's
-- code in 58 to 57, the base in 56 to 40, the end in 39 to 23, the cursor in 22 to 6, and 5 to 0 zero.
abbrev pub packed : Word → ℕ
packed (integer z) = complement z
packed (capability c) =
    2 ^ 63 + permission_code c.permission * 2 ^ 59 + locality_code c.locality * 2 ^ 57 + c.base * 2 ^ 40 + c.end * 2 ^ 23 + c.cursor * 2 ^ 6

-- The bits of a number from bit `low` on, `width` of them.
abbrev pub bits : ℕ → ℕ → ℕ → ℕ
bits n low width = n / 2 ^ low % 2 ^ width

abbrev pub if_made : Making → Option Cap
if_made (made c) = Some c
if_made (refused n) = None

abbrev pub capability_in : ℕ → Option Cap
capability_in n = if_made (made_from (bits n 59 4) (bits n 57 2) (bits n 40 17) (bits n 23 17) (bits n 6 17))

abbrev pub as_word : Option Cap → Option Word
as_word (Some c) = Some (capability c)
as_word None = None

-- The word that a number packs, if it packs one.
abbrev pub unpacked : ℕ → Option Word
unpacked n =
    cond (nat_lt n (2 ^ 32)) (Some (integer (signed n)))
    (cond (n / 2 ^ 63 == 1 && n % 64 == 0) (as_word (capability_in n)) None)

-- In a table or a hand, a number that packs no word means integer 0.
abbrev pub or_zero : Option Word → Word
or_zero (Some w) = w
or_zero None = zero_word

abbrev pub plain : ℕ → Word
plain n = or_zero (unpacked n)
