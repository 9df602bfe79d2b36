-- The row of a packed memory: one cell to each full group of eight bytes, up to 65,536 of them.
use Rattle.std.specs.Prelude.{◌≡◌, ℕ, ◌*◌, ◌/◌, ◌≤◌, min, cond, List, map, length, nat_lt}
use Rattle.std.proofs.Common.{arith}
use Rattle.std.proofs.Math.Seq.{paste}
use Rattle.std.specs.List.{range_with_len}
use Rattle.std.proofs.lemmas.List.FromFn.{length-map-range_with_len}
use Rattle.words.specs.Word.{Word}
use Rattle.groups.specs.Packing.{packed, or_zero}
use Rattle.groups.specs.Groups.{group, group_word, group_at}

abbrev pub packed_size : List ℕ → ℕ
packed_size bytes = min 65536 (length bytes / 8)

-- The word that a group means: one that packs no word means integer 0.
unfoldable pub plain_group : List ℕ → Word
plain_group bytes = or_zero (group_word bytes)

-- The words that the groups mean.
unfoldable pub packed_row : List ℕ → List Word
packed_row bytes = map (λ a. plain_group (group_at bytes (8 * a))) (range_with_len 0 (packed_size bytes))

-- The eight bytes of a word.
unfoldable pub word_group : Word → List ℕ
word_group w = group (packed w)

-- The bytes with the eight of one cell replaced by a word's group.
abbrev pub with_group : List ℕ → ℕ → Word → List ℕ
with_group bytes a w = paste bytes (8 * a) (word_group w) 8

-- How a store leaves the bytes: the word's group stands in the cell and every other byte stays; a refused store changes none.
abbrev pub packed_after : List ℕ → ℕ → Word → List ℕ
packed_after bytes a w = cond (nat_lt a (packed_size bytes)) (with_group bytes a w) bytes

pub packed_length : (bytes : List ℕ) → length (packed_row bytes) ≡ packed_size bytes
unfolding packed_row
packed_length bytes = length-map-range_with_len (λ a. plain_group (group_at bytes (8 * a))) 0 (packed_size bytes)

pub packed_bounded : (bytes : List ℕ) → length (packed_row bytes) ≤ 65536
packed_bounded bytes = omega (arith, packed_length bytes)
