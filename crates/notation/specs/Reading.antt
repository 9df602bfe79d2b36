-- What a listing says, a text that says it again has the same bytes: the law that ties the two directions.
use Rattle.std.specs.Prelude.{◌≡◌, ℕ, ◌^◌, ◌<◌, ◌≤◌, List, [], ◌∷◌, length}
use Rattle.words.specs.Word.{Word}
use Rattle.groups.specs.Packing.{Exists}
use Rattle.notation.specs.Assembling.{sheet, sheet_bytes, assembled}
use Rattle.notation.specs.Listing.{listing}

-- Every word of a row is one that exists.
abbrev pub AllExist : List Word → Type 0
AllExist [] = Unit {0}
AllExist (w ∷ ws) = Exists w × AllExist ws

-- The parts of a sheet: a budget of 32 bits, a hand of sixteen words, and up to 2,048 cells.
pub record PartsOfSheet (budget : ℕ) (hand cells : List Word) : Type 0 where
  pub small : budget < 2 ^ 32
  pub sixteen : length hand ≡ 16
  pub hand_exists : AllExist hand
  pub few : length cells ≤ 2048
  pub cells_exist : AllExist cells

-- The listing of a sheet assembles to the sheet, whatever its comments say of the marks.
abbrev pub ReadsBack : Type 0
ReadsBack =
    (budget : ℕ) (hand cells : List Word) (marks : List ℕ) (charts : List (List ℕ)) →
    PartsOfSheet budget hand cells → length marks ≤ 2048 → length charts ≤ 16 →
    assembled (listing budget hand cells marks charts) ≡ sheet (sheet_bytes budget hand cells)
