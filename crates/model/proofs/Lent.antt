-- Where no placing is Local and no word that was given stores Local capabilities, the cells keep Global capabilities only, each with a source.
use Rattle.std.proofs.Common.{◌≡◌, ℕ, zero, suc, T, ◌≢◌, List, ◌∷◌, replicate, sym, refl, subst}
use Rattle.words.specs.declared.locality.Locality.{Locality}
use Rattle.words.specs.declared.locality.Locality.TheVariants.{Global, Local}
use Rattle.words.specs.Permissions.{stores_local}
use Rattle.words.specs.Localities.{local}
use Rattle.words.specs.Word.{Cap, Word, integer, capability, zero_word, at, is_local}
use Rattle.model.specs.declared.status.Status.{Status}
use Rattle.model.specs.Machine.{Machine, moved}
use Rattle.model.specs.Step.{step}
use Rattle.model.specs.Run.{Runs, spent, already_halted, already_failed, steps_on, step_halts, step_faults}
use Rattle.model.specs.Bench.{Call, placing, Answer, done, State, idle, visiting, cells_of, Does, places, places_no_cell, reads_cell, reads_no_cell, surveys, surveys_short, opens, runs, reads_register, reads_no_register, closes, History, Leads, made, next}
use Rattle.model.specs.Lending.{Occurs, by_opening, Given, by_placing, LentOnly, NothingLeftBehind}
use Rattle.model.specs.Authority.{NoMore}
use Rattle.model.proofs.Rows.{no_integer, same_capability}
use Rattle.model.proofs.Narrowed.{no_more_refl, no_more_trans, can_store, is_global, within}
use Rattle.model.proofs.Steps.{Has, AllAt, ended, Change, unchanged, changed, Moved, step_ends, all_set}

-- a capability that gives no more than one that was given
pub record Sourced (history : History) (c : Cap) : Type 0 where
  pub source : Cap
  pub given : Given source history
  pub no_more : NoMore c source

-- and that is Global
abbrev KeptGlobal : History → Cap → Type 0
KeptGlobal history c = Sourced history c × (c.locality ≡ Global)

sourced_narrower : (history : History) (c d : Cap) → NoMore c d → Sourced history d → Sourced history c
sourced_narrower history c d n s = record { source = s.source; given = s.given; no_more = no_more_trans n s.no_more }

sourced_earlier : (event : Call × Answer) (history : History) (c : Cap) → Sourced history c → Sourced (event ∷ history) c
sourced_earlier event history c s = record { source = s.source; given = Given.earlier s.given; no_more = s.no_more }

-- nothing that was given stores Local capabilities
abbrev StoresNone : History → Type 0
StoresNone history = (c : Cap) → Given c history → ¬ T (stores_local c.permission)

lent_earlier : {event : Call × Answer} {history : History} → LentOnly (event ∷ history) → LentOnly history
lent_earlier lent = record { placings = λ a c o. lent.placings a c (Occurs.earlier o); hands = λ hand i c o. lent.hands hand i c (Occurs.earlier o) }

given_stores_none : (c : Cap) {history : History} → LentOnly history → Given c history → ¬ T (stores_local c.permission)
given_stores_none c lent (by_placing {a = a}) = (lent.placings a c Occurs.here).1
given_stores_none c lent (by_opening {hand = hand} i e) = lent.hands hand i c Occurs.here e
given_stores_none c lent (Given.earlier g) = given_stores_none c (lent_earlier lent) g

stores_none : (history : History) → LentOnly history → StoresNone history
stores_none history lent c g = given_stores_none c lent g

global : (l : Locality) → ¬ T (local l) → l ≡ Global
global Global h = refl
global Local h = absurd (h tt)

not_local : (l : Locality) → l ≢ Local → l ≡ Global
not_local Global h = refl
not_local Local h = absurd (h refl)

-- the words of the machine
record Safe (history : History) (m : Machine) : Type 0 where
  registers : AllAt (Sourced history) m.registers
  cells : AllAt (KeptGlobal history) m.cells

module _ (history : History) (none : StoresNone history) where
  safe_change : (r₀ r before after : List Word) → AllAt (Sourced history) r₀ → AllAt (KeptGlobal history) before → AllAt (Sourced history) r → Change r₀ before after → Safe history (record { registers = r; cells = after })
  safe_change r₀ r before after had kept all unchanged = record { registers = all; cells = kept }
  safe_change r₀ r before after had kept all (changed {c = c} {a = a} {w = w} i found can covers exists storable carried) = record {
    registers = all;
    cells = all_set (KeptGlobal history) before a w kept (λ d e.
        let s : Sourced history c = had i c found in (
          had (carried d e).0 d (carried d e).1,
          global d.locality (λ is. none s.source s.given (can_store s.no_more (storable (subst (λ (x : Word). T (is_local x)) (sym e) is)))),
        ));
  }

  safe_step : (m m' : Machine) → Safe history m → step m ≡ moved m' → Safe history m'
  safe_step m m' safe e =
      let now : Moved (Sourced history) m.registers m.cells m' =
      ended (Moved (Sourced history) m.registers m.cells) (step m) m'
      (step_ends (Sourced history) (sourced_narrower history) m safe.registers (λ i c a found can covers exists d e. (safe.cells a d e).0)) e in
      safe_change m.registers m'.registers m.cells m'.cells safe.registers safe.cells now.registers now.change

  safe_runs : {budget n : ℕ} {m m' : Machine} {status status' : Status} → Runs budget m status n m' status' → Safe history m → Safe history m'
  safe_runs spent safe = safe
  safe_runs already_halted safe = safe
  safe_runs already_failed safe = safe
  safe_runs (steps_on {m = m} {m' = m'} e rest) safe = safe_runs rest (safe_step m m' safe e)
  safe_runs (step_halts e) safe = safe
  safe_runs (step_faults e) safe = safe

abbrev SafeState : History → State → Type 0
SafeState history (idle cells) = AllAt (KeptGlobal history) cells
SafeState history (visiting m status) = Safe history m

all_earlier : (event : Call × Answer) (history : History) (cells : List Word) → AllAt (KeptGlobal history) cells → AllAt (KeptGlobal (event ∷ history)) cells
all_earlier event history cells kept a c e = (sourced_earlier event history c (kept a c e).0, (kept a c e).1)

safe_earlier : (event : Call × Answer) (history : History) (m : Machine) → Safe history m → Safe (event ∷ history) m
safe_earlier event history m safe = record { registers = λ i c e. sourced_earlier event history c (safe.registers i c e); cells = all_earlier event history m.cells safe.cells }

placed_global : (history : History) (a : ℕ) (w : Word) → LentOnly ((placing a w, done) ∷ history) → Has (KeptGlobal ((placing a w, done) ∷ history)) w
placed_global history a (integer z) lent = λ c e. no_integer e
placed_global history a (capability d) lent = λ c e.
    subst (KeptGlobal ((placing a (capability d), done) ∷ history)) (same_capability e)
    (record { source = d; given = by_placing; no_more = no_more_refl }, not_local d.locality (lent.placings a d Occurs.here).0)

safe_does : {history : History} {before after : State} {call : Call} {answer : Answer} → LentOnly ((call, answer) ∷ history) → Does before call answer after → SafeState history before → SafeState ((call, answer) ∷ history) after
safe_does {history} lent (places {cells = cells} {a = a} {w = w} exists) safe =
    all_set (KeptGlobal ((placing a w, done) ∷ history)) cells a w (all_earlier _ history cells safe) (placed_global history a w lent)
safe_does {history} lent (places_no_cell {cells = cells} h) safe = all_earlier _ history cells safe
safe_does {history} lent (reads_cell {cells = cells} h) safe = all_earlier _ history cells safe
safe_does {history} lent (reads_no_cell {cells = cells} h) safe = all_earlier _ history cells safe
safe_does {history} lent (surveys {cells = cells} h k) safe = all_earlier _ history cells safe
safe_does {history} lent (surveys_short {cells = cells} h) safe = all_earlier _ history cells safe
safe_does {history} lent (opens {cells = cells} {hand = hand}) safe = record {
  registers = λ i c e. record { source = c; given = by_opening i e; no_more = no_more_refl };
  cells = all_earlier _ history cells safe;
}
safe_does {history} lent (runs {m = m} r) safe = safe_runs _ (stores_none _ lent) r (safe_earlier _ history m safe)
safe_does {history} lent (reads_register {m = m} h) safe = safe_earlier _ history m safe
safe_does {history} lent (reads_no_register {m = m} h) safe = safe_earlier _ history m safe
safe_does {history} lent (closes {m = m}) safe = all_earlier _ history m.cells safe.cells

all_zero : (n a : ℕ) (c : Cap) {A : Type 0} → at (replicate n zero_word) a ≡ capability c → A
all_zero zero a c e = no_integer e
all_zero (suc n) zero c e = no_integer e
all_zero (suc n) (suc a) c e = all_zero n a c e

safe_leads : {size : ℕ} {history : History} {state : State} → Leads size history state → LentOnly history → SafeState history state
safe_leads {size} made lent = λ a c e. all_zero size a c e
safe_leads (next l d) lent = safe_does lent d (safe_leads l (lent_earlier lent))

kept_state : {history : History} (state : State) → SafeState history state → AllAt (KeptGlobal history) (cells_of state)
kept_state (idle cells) safe = safe
kept_state (visiting m status) safe = safe.cells

pub nothing_left_behind : {size : ℕ} {history : History} {state : State} → Leads size history state → NothingLeftBehind history state
nothing_left_behind {state = state} l lent a c e =
    let kept = kept_state state (safe_leads l lent) a c e in
    (kept.1, (kept.0.source, kept.0.given, is_global kept.0.no_more kept.1, within kept.0.no_more))
