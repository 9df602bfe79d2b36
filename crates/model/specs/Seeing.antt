-- The second finding: what could not have been seen.
use Rattle.std.specs.Prelude.{◌≡◌, ℕ, Bool, T, List, [], ◌∷◌}
use Rattle.words.specs.Word.{Word, at}
use Rattle.model.specs.declared.status.Status.{Status}
use Rattle.model.specs.Machine.{Machine}
use Rattle.model.specs.Survey.{Reached}
use Rattle.model.specs.Bench.{Call, placing, reading, survey, opening, Answer, done, word, surveyed, State, idle, visiting, History, Leads}

-- The address was reached by a call of the list: by an opened hand or an accepted survey what the survey marks, by an accepted reading its cell.
pub data Reaches (size a : ℕ) : History → Type 0 where
  by_opening :
      {history : History} {cells hand : List Word} → Leads size history (idle cells) → Reached hand cells a →
      Reaches size a ((opening hand, done) ∷ history)
  by_survey :
      {history : History} {cells hand : List Word} {chart chart' : List ℕ} {marked marked_2 : ℕ} →
      Leads size history (idle cells) → Reached hand cells a →
      Reaches size a ((survey hand chart, surveyed marked marked_2 chart') ∷ history)
  by_reading : {history : History} {w : Word} → Reaches size a ((reading a, word w) ∷ history)
  earlier : {event : Call × Answer} {history : History} → Reaches size a history → Reaches size a (event ∷ history)

-- Two lists of calls that differ only in words placed into the set; of their answers it says nothing.
pub data Alike (secret : ℕ → Bool) : History → History → Type 0 where
  none : Alike secret [] []
  same :
      {call : Call} {x y : Answer} {h k : History} → Alike secret h k →
      Alike secret ((call, x) ∷ h) ((call, y) ∷ k)
  placed :
      {a : ℕ} {v w : Word} {x y : Answer} {h k : History} → T (secret a) → Alike secret h k →
      Alike secret ((placing a v, x) ∷ h) ((placing a w, y) ∷ k)

-- Two benches that stand alike, with the same registers, and the same cells outside the set.
pub data SameOutside (secret : ℕ → Bool) : State → State → Type 0 where
  both_idle :
      {cells cells' : List Word} → ((a : ℕ) → ¬ T (secret a) → at cells a ≡ at cells' a) →
      SameOutside secret (idle cells) (idle cells')
  both_visiting :
      {m m' : Machine} {status : Status} → m.registers ≡ m'.registers →
      ((a : ℕ) → ¬ T (secret a) → at m.cells a ≡ at m'.cells a) →
      SameOutside secret (visiting m status) (visiting m' status)

-- The answers, with the charts of the surveys.
abbrev pub answers : History → List Answer
answers [] = []
answers (event ∷ history) = event.1 ∷ answers history

-- If no survey, opened hand or reading reached any of the set, a list of calls that differs only in words placed into the set gives the same answers and
-- charts, and ends with the same registers and the same cells outside the set.
abbrev pub UnreachedUnseen : ℕ → History → State → Type 0
UnreachedUnseen size history state =
    (secret : ℕ → Bool) → ((a : ℕ) → T (secret a) → ¬ Reaches size a history) →
    (history' : History) (state' : State) → Leads size history' state' → Alike secret history history' →
    (answers history ≡ answers history') × SameOutside secret state state'
