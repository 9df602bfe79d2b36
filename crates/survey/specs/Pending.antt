-- The work list of cells that are marked and not followed yet.
use Rattle.std.specs.Prelude.{◌≡◌, ℕ, ◌<◌, Some, None, Option, List, [], ◌∷◌, ◌++◌, length, slice_index}

-- The cell is on the list.
abbrev pub Listed : List ℕ → ℕ → Type 0
Listed p a = (i : ℕ) × (i < length p) × (slice_index p i ≡ a)

-- The last cell is taken off the list, or the list is empty and stays so.
abbrev pub Taken : List ℕ → Option ℕ → List ℕ → Type 0
Taken p (Some a) p' = p ≡ p' ++ a ∷ []
Taken p None p' = (p ≡ []) × (p' ≡ [])
