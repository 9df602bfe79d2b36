-- What a list of calls leaves: the number of cells, and for a visit that is open, its opening and what it has kept since.
use Rattle.std.proofs.Common.{◌≡◌, ℕ, suc, ◌≢◌, List, ◌∷◌, length, sym, ap, ◌∙◌, arith, length-set}
use lib.ListN.{length-replicate}
use Rattle.words.specs.Word.{Word, zero_word, at}
use Rattle.model.specs.Machine.{Machine}
use Rattle.model.specs.Bench.{Call, placing, reading, survey, opening, run, register_reading, closing, Answer, done, refused, word, surveyed, outcome, State, idle, visiting, cells_of, Does, places, places_no_cell, reads_cell, reads_no_cell, surveys, surveys_short, opens, runs, reads_register, reads_no_register, closes, History, Leads, made, next}
use Rattle.model.specs.Writing.{NotPlaced}
use Rattle.model.proofs.Visit.{Visit, visit_opened, visit_runs}

-- the address of an accepted placing, and n for any other call
abbrev placed_by : ℕ → Call → Answer → ℕ
placed_by n (placing a w) done = a
placed_by n (placing a w) (refused x) = n
placed_by n (placing a w) (word x) = n
placed_by n (placing a w) (surveyed x y z) = n
placed_by n (placing a w) (outcome x y) = n
placed_by n (reading a) answer = n
placed_by n (survey hand chart) answer = n
placed_by n (opening hand) answer = n
placed_by n (run budget) answer = n
placed_by n (register_reading i) answer = n
placed_by n closing answer = n

pub not_placed : (a : ℕ) (call : Call) (answer : Answer) → placed_by (suc a) call answer ≢ a → NotPlaced a (call, answer)
not_placed a call answer h w e = h (ap (λ (event : Call × Answer). placed_by (suc a) event.0 event.1) e)

pub suc_apart : (a : ℕ) → suc a ≢ a
suc_apart a = omega arith

-- the call places no word anywhere
abbrev pub Quiet : Call × Answer → Type 0
Quiet event = (a : ℕ) → NotPlaced a event

-- the last visit was opened with `hand` over `cells`, and no word was placed since
pub data Opening (size : ℕ) (hand cells : List Word) : History → Type 0 where
  here : {history : History} → Leads size history (idle cells) → Opening size hand cells ((opening hand, done) ∷ history)
  later : {event : Call × Answer} {history : History} → Quiet event → Opening size hand cells history → Opening size hand cells (event ∷ history)

-- the visit that is open
pub record Opened (size : ℕ) (history : History) (m : Machine) : Type 0 where
  pub hand : List Word
  pub cells : List Word
  pub opening : Opening size hand cells history
  pub visit : Visit hand cells m

abbrev pub Story : ℕ → History → State → Type 0
Story size history (idle cells) = Unit {0}
Story size history (visiting m status) = Opened size history m

-- the size stays, and a visit has its opening
abbrev pub Told : ℕ → History → State → Type 0
Told size history state = (length (cells_of state) ≡ size) × Story size history state

opened_later : {size : ℕ} {history : History} {m : Machine} (event : Call × Answer) → Quiet event → Opened size history m → Opened size (event ∷ history) m
opened_later event quiet o = record { hand = o.hand; cells = o.cells; opening = later quiet o.opening; visit = o.visit }

told_run : (size : ℕ) (history : History) (m m' : Machine) (event : Call × Answer) → Quiet event → length m.cells ≡ size → (o : Opened size history m) → Visit o.hand o.cells m' → (length m'.cells ≡ size) × Opened size (event ∷ history) m'
told_run size history m m' event quiet s o v = (v.size ∙ sym o.visit.size ∙ s, record { hand = o.hand; cells = o.cells; opening = later quiet o.opening; visit = v })

told_does : {size : ℕ} {history : History} {before after : State} {call : Call} {answer : Answer} → Leads size history before → Does before call answer after → Told size history before → Told size ((call, answer) ∷ history) after
told_does l (places {cells = cells} {a = a} {w = w} h) t = (length-set cells a w ∙ t.0, tt)
told_does l (places_no_cell h) t = t
told_does l (reads_cell h) t = t
told_does l (reads_no_cell h) t = t
told_does l (surveys h k) t = t
told_does l (surveys_short h) t = t
told_does l (opens {cells = cells} {hand = hand}) t = (t.0, record { hand = hand; cells = cells; opening = here l; visit = visit_opened hand cells })
told_does {size} {history} l (runs {m = m} {m' = m'} {status' = status'} {budget = budget} {n = n} r) t =
    told_run size history m m' _ (λ a. not_placed a (run budget) (outcome status' n) (suc_apart a)) t.0 t.1 (visit_runs t.1.hand t.1.cells r t.1.visit).0
told_does l (reads_register {m = m} {i = i} h) t = (t.0, opened_later _ (λ a. not_placed a (register_reading i) (word (at m.registers i)) (suc_apart a)) t.1)
told_does l (reads_no_register {i = i} h) t = (t.0, opened_later _ (λ a. not_placed a (register_reading i) (refused 2) (suc_apart a)) t.1)
told_does l closes t = (t.0, tt)

pub told : {size : ℕ} {history : History} {state : State} → Leads size history state → Told size history state
told {size} made = (length-replicate size zero_word, tt)
told (next l d) = told_does l d (told l)
