-- The row of a joined memory: a second row behind a first, cut at 65,536 cells.
use Rattle.std.specs.Prelude.{◌≡◌, ℕ, ◌-◌, ◌≤◌, cond, ◌&&◌, List, ◌∷◌, ◌++◌, map, length, take, drop, nat_le, nat_lt, slice_set}
use Rattle.std.proofs.Common.{arith, length-take}
use Rattle.words.specs.Word.{Word}
use Rattle.groups.specs.Packing.{packed}

unfoldable pub joined_row : List Word → List Word → List Word
joined_row first second = take 65536 (first ++ second)

-- What lies beyond: where the second row begins, what lies beyond the two parts, and the cells that the cut leaves out. The lengths in front tell the
-- parts apart.
unfoldable pub joined_beyond : List Word → List Word → List ℕ → List ℕ → List ℕ
joined_beyond first second past_first past_second =
    length first ∷ length past_first ∷ length past_second ∷ (past_first ++ (past_second ++ map packed (drop 65536 (first ++ second))))

-- What lies beyond a pile tells its parts apart: with the same beyond, the first part has the same length, and the same lies beyond each part. So whoever
-- takes a pile apart knows which cells of the whole are the first part's.
abbrev pub ToldApart : List Word → List Word → List ℕ → List ℕ → Type 0
ToldApart first second past_first past_second =
    (first' second' : List Word) (past_first' past_second' : List ℕ) →
    joined_beyond first' second' past_first' past_second' ≡ joined_beyond first second past_first past_second →
    (first ≡ take (length first') (joined_row first second)) × (past_first ≡ past_first') × (past_second ≡ past_second')

-- How a store leaves the second row: an address from the first row's length on, and below the cut, is one of its own; any other leaves it as it was.
abbrev pub second_after : List Word → List Word → ℕ → Word → List Word
second_after first second a w = cond (nat_le (length first) a && nat_lt a 65536) (slice_set second (a - length first) w) second

pub joined_bounded : (first second : List Word) → length (joined_row first second) ≤ 65536
unfolding joined_row
joined_bounded first second = omega (arith, length-take 65536 (first ++ second))
