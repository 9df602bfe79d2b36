-- The row of a table memory: one cell to each number, up to 65,536 of them.
use Rattle.std.specs.Prelude.{◌≡◌, ℕ, ◌≤◌, min, cond, List, map, length, take, nat_lt, slice_set}
use Rattle.std.proofs.Common.{arith, length-take}
use Rattle.std.proofs.lemmas.List.{length-map}
use Rattle.words.specs.Word.{Word}
use Rattle.groups.specs.Packing.{packed, plain}

abbrev pub table_size : List ℕ → ℕ
table_size numbers = min 65536 (length numbers)

-- The words that the numbers mean.
unfoldable pub table_row : List ℕ → List Word
table_row numbers = map plain (take 65536 numbers)

-- How a store leaves the numbers: the packed word stands at the address and every other number stays; a refused store changes none.
abbrev pub table_after : List ℕ → ℕ → Word → List ℕ
table_after numbers a w = cond (nat_lt a (table_size numbers)) (slice_set numbers a (packed w)) numbers

pub table_length : (numbers : List ℕ) → length (table_row numbers) ≡ table_size numbers
unfolding table_row
table_length numbers = simp (length-map, length-take)

pub table_bounded : (numbers : List ℕ) → length (table_row numbers) ≤ 65536
table_bounded numbers = omega (arith, table_length numbers)
