-- When one permission, locality, pair of bounds or capability is below another: as a statement, and as the test that decides it.
use Rattle.std.specs.Prelude.{ℕ, Bool, true, false, not, ◌&&◌, ◌||◌, T, ◌≢◌, nat_le}
use Rattle.words.specs.declared.permission.Permission.{Permission}
use Rattle.words.specs.declared.permission.Permission.TheVariants.{O, RO, RW, RWL, RX, E, RWX, RWLX}
use Rattle.words.specs.declared.locality.Locality.{Locality}
use Rattle.words.specs.declared.locality.Locality.TheVariants.{Global, Local}
use Rattle.words.specs.declared.bounds.Bounds.{Bounds}
use Rattle.words.specs.Permissions.{reads, writes, executes, stores_local, is_enter}
use Rattle.words.specs.Word.{Cap}

-- The test is true exactly where the statement holds.
abbrev pub Exactly : Bool → Type 0 → Type 0
Exactly test Statement = (T test → Statement) × (Statement → T test)

-- The permission q has every letter (R, W, L, X) that p has.
pub record HasLetters (p q : Permission) : Type 0 where
  pub r : T (reads p) → T (reads q)
  pub w : T (writes p) → T (writes q)
  pub l : T (stores_local p) → T (stores_local q)
  pub x : T (executes p) → T (executes q)

-- O is below all; E is below itself and what executes; any other is below one that has all its letters.
pub data PermissionBelow : Permission → Permission → Type 0 where
  nothing : {q : Permission} → PermissionBelow O q
  enter_itself : PermissionBelow E E
  enter_code : {q : Permission} → T (executes q) → PermissionBelow E q
  letters : {p q : Permission} → p ≢ O → p ≢ E → HasLetters p q → PermissionBelow p q

-- p → q, as a test
abbrev pub implies : Bool → Bool → Bool
implies p q = not p || q

abbrev pub has_letters : Permission → Permission → Bool
has_letters p q =
    implies (reads p) (reads q) && implies (writes p) (writes q) && implies (stores_local p) (stores_local q) && implies (executes p) (executes q)

abbrev pub below_permission : Permission → Permission → Bool
below_permission O q = true
below_permission RO q = has_letters RO q
below_permission RW q = has_letters RW q
below_permission RWL q = has_letters RWL q
below_permission RX q = has_letters RX q
below_permission E q = is_enter q || executes q
below_permission RWX q = has_letters RWX q
below_permission RWLX q = has_letters RWLX q

-- Local is below Global, and each below itself.
abbrev pub below_locality : Locality → Locality → Bool
below_locality Local l = true
below_locality Global Global = true
below_locality Global Local = false

-- The addresses from b up to e lie within those from b' up to e': the base is at least, and the end at most, the other's. Numbers alone count, also where
-- a base lies above its end.
abbrev pub inside : ℕ → ℕ → ℕ → ℕ → Bool
inside b e b' e' = nat_le b' b && nat_le e e'

abbrev pub below_bounds : Bounds → Bounds → Bool
below_bounds s t = inside s.base s.end t.base t.end

-- By permission, locality and bounds together; the cursors don't count.
abbrev pub below_capability : Cap → Cap → Bool
below_capability c d =
    (below_permission c.permission d.permission && below_locality c.locality d.locality) && inside c.base c.end d.base d.end
