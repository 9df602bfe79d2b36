-- What holds of every call on a bench: where it is allowed it has an answer, and only one, and a refusal changes nothing.
use Rattle.std.specs.Prelude.{◌≡◌, ℕ, ◌≤◌, List, length}
use Rattle.words.specs.Word.{Word}
use Rattle.model.specs.Survey.{Charted}
use Rattle.model.specs.Bench.{Call, placing, reading, survey, opening, run, register_reading, closing, Answer, refused, State, idle, visiting, Does}

-- The same call in the same state gives the same answer, its chart included, and leaves the same state.
abbrev pub CallsDetermined : Type 0
CallsDetermined =
    (before : State) (call : Call) (x y : Answer) (s t : State) →
    Does before call x s → Does before call y t → (x ≡ y) × (s ≡ t)

-- What a survey of the hand comes to.
pub record Surveyed (hand cells : List Word) (chart : List ℕ) : Type 0 where
  pub after : List ℕ
  pub marked : ℕ
  pub marked_2 : ℕ
  pub charted : Charted hand cells chart after marked marked_2

-- Every survey over a chart that is long enough comes to something: it can be told of each cell whether a chain of capabilities leads to it.
abbrev pub ChartsExist : Type 0
ChartsExist = (hand cells : List Word) (chart : List ℕ) → length cells ≤ length chart → Surveyed hand cells chart

-- A survey leaves one chart, with one pair of counts.
abbrev pub ChartsDetermined : Type 0
ChartsDetermined =
    (hand cells : List Word) (chart x y : List ℕ) (m m_2 n n_2 : ℕ) →
    Charted hand cells chart x m m_2 → Charted hand cells chart y n n_2 → (x ≡ y) × (m ≡ n) × (m_2 ≡ n_2)

-- A refusal leaves the bench as it was.
abbrev pub RefusalsChangeNothing : Type 0
RefusalsChangeNothing = (before : State) (call : Call) (n : ℕ) (after : State) → Does before call (refused n) after → after ≡ before

-- The calls that a state allows: an idle bench takes placings, readings, surveys and an opening, a visit runs, register readings and its closing.
abbrev pub Allows : State → Call → Type 0
Allows (idle cells) (placing a w) = Unit {0}
Allows (idle cells) (reading a) = Unit {0}
Allows (idle cells) (survey hand chart) = Unit {0}
Allows (idle cells) (opening hand) = Unit {0}
Allows (idle cells) (run budget) = ⊥
Allows (idle cells) (register_reading i) = ⊥
Allows (idle cells) closing = ⊥
Allows (visiting m status) (placing a w) = ⊥
Allows (visiting m status) (reading a) = ⊥
Allows (visiting m status) (survey hand chart) = ⊥
Allows (visiting m status) (opening hand) = ⊥
Allows (visiting m status) (run budget) = Unit {0}
Allows (visiting m status) (register_reading i) = Unit {0}
Allows (visiting m status) closing = Unit {0}

-- The call has an answer.
pub record Answered (before : State) (call : Call) : Type 0 where
  pub answer : Answer
  pub after : State
  pub does : Does before call answer after

-- A call has an answer exactly where the state allows it.
abbrev pub AllowedAnswered : Type 0
AllowedAnswered = (before : State) (call : Call) → (Allows before call → Answered before call) × (Answered before call → Allows before call)
