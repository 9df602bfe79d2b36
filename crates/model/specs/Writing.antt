-- The first finding: who could have changed a cell.
use Rattle.std.specs.Prelude.{ℕ, ◌<◌, cond, ◌≢◌, List, [], ◌∷◌, ◌==◌}
use Rattle.words.specs.Word.{Word, zero_word, at}
use Rattle.model.specs.Survey.{Writable}
use Rattle.model.specs.Bench.{Call, placing, reading, survey, opening, run, register_reading, closing, Answer, done, refused, word, surveyed, outcome, State, idle, cells_of, History, Leads}

-- The word last placed at the address a: what it was before the call (w), unless the call is an accepted placing there.
abbrev pub after_call : ℕ → Call → Answer → Word → Word
after_call a (placing b v) done w = cond (a == b) v w
after_call a (placing b v) (refused n) w = w
after_call a (placing b v) (word x) w = w
after_call a (placing b v) (surveyed m n chart) w = w
after_call a (placing b v) (outcome s n) w = w
after_call a (reading b) answer w = w
after_call a (survey hand chart) answer w = w
after_call a (opening hand) answer w = w
after_call a (run budget) answer w = w
after_call a (register_reading i) answer w = w
after_call a closing answer w = w

-- The word of the last accepted placing at the address, and the integer 0 without one.
abbrev pub last_placed : ℕ → History → Word
last_placed a [] = zero_word
last_placed a (event ∷ history) = after_call a event.0 event.1 (last_placed a history)

-- The call is no accepted placing at the address.
abbrev pub NotPlaced : ℕ → Call × Answer → Type 0
NotPlaced a event = (w : Word) → event ≢ (placing a w, done)

-- The address was writable in the survey of a visit, its hand's at its opening, and the visit was opened since the last accepted placing there, or since
-- the making without one.
pub data WritableSince (size a : ℕ) : History → Type 0 where
  opened :
      {history : History} {cells hand : List Word} → Leads size history (idle cells) → Writable hand cells a →
      WritableSince size a ((opening hand, done) ∷ history)
  earlier :
      {event : Call × Answer} {history : History} → NotPlaced a event → WritableSince size a history →
      WritableSince size a (event ∷ history)

-- A cell with another word than its last accepted placing gave, or than 0 without one, was writable in the survey of a visit opened since.
abbrev pub OnlyWritableChange : ℕ → History → State → Type 0
OnlyWritableChange size history state =
    (a : ℕ) → a < size → at (cells_of state) a ≢ last_placed a history → WritableSince size a history
