-- The third finding: what a visit leaves behind.
use Rattle.std.specs.Prelude.{◌≡◌, ℕ, T, ◌≢◌, List, ◌∷◌}
use Rattle.words.specs.declared.locality.Locality.TheVariants.{Global, Local}
use Rattle.words.specs.Permissions.{stores_local}
use Rattle.words.specs.Word.{Cap, Word, capability, at, Covers}
use Rattle.model.specs.Bench.{Call, placing, opening, Answer, done, State, cells_of, History}

-- The call is one of the list, accepted or refused.
pub data Occurs (call : Call) : History → Type 0 where
  here : {answer : Answer} {history : History} → Occurs call ((call, answer) ∷ history)
  earlier : {event : Call × Answer} {history : History} → Occurs call history → Occurs call (event ∷ history)

-- The capability was in an accepted placing or in an opened hand.
pub data Given (c : Cap) : History → Type 0 where
  by_placing : {a : ℕ} {history : History} → Given c ((placing a (capability c), done) ∷ history)
  by_opening :
      {hand : List Word} {history : History} (i : ℕ) → at hand i ≡ capability c →
      Given c ((opening hand, done) ∷ history)
  earlier : {event : Call × Answer} {history : History} → Given c history → Given c (event ∷ history)

-- No placing carries a Local capability, and no placing or opened hand a permission to store them. Hands may have Local capabilities: they are lent.
pub record LentOnly (history : History) : Type 0 where
  pub placings :
      (a : ℕ) (c : Cap) → Occurs (placing a (capability c)) history →
      (c.locality ≢ Local) × ¬ T (stores_local c.permission)
  pub hands :
      (hand : List Word) (i : ℕ) (c : Cap) → Occurs (opening hand) history → at hand i ≡ capability c →
      ¬ T (stores_local c.permission)

-- Then each capability in a cell is Global, and one Global capability from an accepted placing or an opened hand covers each address that it covers.
abbrev pub NothingLeftBehind : History → State → Type 0
NothingLeftBehind history state =
    LentOnly history → (a : ℕ) (c : Cap) → at (cells_of state) a ≡ capability c →
    (c.locality ≡ Global) × ((source : Cap) × Given source history × (source.locality ≡ Global) × ((x : ℕ) → Covers c x → Covers source x))
