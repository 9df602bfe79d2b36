-- A number of 64 bits as a group of eight bytes, most significant first.
use Rattle.std.specs.Prelude.{ℕ, ◌+◌, ◌*◌, ◌/◌, ◌%◌, ◌^◌, cond, List, [], ◌∷◌, length, take, drop, None, Option, ◌==◌, slice_index}
use Rattle.words.specs.Word.{Word}
use Rattle.groups.specs.Packing.{unpacked}

abbrev pub group : ℕ → List ℕ
group n =
    (n / 2 ^ 56 % 256) ∷ (n / 2 ^ 48 % 256) ∷ (n / 2 ^ 40 % 256) ∷ (n / 2 ^ 32 % 256)
    ∷ (n / 2 ^ 24 % 256) ∷ (n / 2 ^ 16 % 256) ∷ (n / 2 ^ 8 % 256) ∷ (n % 256) ∷ []

-- The number in the eight bytes from a place on.
abbrev pub number_at : List ℕ → ℕ → ℕ
number_at bytes i =
    slice_index bytes i * 2 ^ 56 + slice_index bytes (i + 1) * 2 ^ 48 + slice_index bytes (i + 2) * 2 ^ 40 + slice_index bytes (i + 3) * 2 ^ 32
    + slice_index bytes (i + 4) * 2 ^ 24 + slice_index bytes (i + 5) * 2 ^ 16 + slice_index bytes (i + 6) * 2 ^ 8 + slice_index bytes (i + 7)

-- The word that bytes pack: only eight of them do.
abbrev pub group_word : List ℕ → Option Word
group_word bytes = cond (length bytes == 8) (unpacked (number_at bytes 0)) None

-- The eight bytes from a place on.
abbrev pub group_at : List ℕ → ℕ → List ℕ
group_at bytes i = take 8 (drop i bytes)
