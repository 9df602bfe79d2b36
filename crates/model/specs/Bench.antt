-- The bench: its calls, what each answers, and what it leaves.
use Rattle.std.specs.Prelude.{ℕ, ◌<◌, ◌≤◌, List, [], ◌∷◌, length, replicate, slice_set}
use Rattle.words.specs.Word.{Word, zero_word, at}
use Rattle.model.specs.declared.status.Status.{Status}
use Rattle.model.specs.declared.status.Status.TheVariants.{Running}
use Rattle.model.specs.Machine.{Machine}
use Rattle.model.specs.Run.{Runs}
use Rattle.model.specs.Survey.{Charted}

-- A call with its arguments, as they stand at the call.
pub data Call : Type 0 where
  placing : ℕ → Word → Call  -- a word into a cell
  reading : ℕ → Call  -- of a cell
  survey : List Word → List ℕ → Call  -- of a hand, into a chart
  opening : List Word → Call  -- of a visit, with a hand
  run : ℕ → Call  -- with a budget
  register_reading : ℕ → Call
  closing : Call

-- What a call answers, with the chart that an accepted survey leaves.
pub data Answer : Type 0 where
  done : Answer
  refused : ℕ → Answer  -- with the number of the refusal
  word : Word → Answer
  surveyed : ℕ → ℕ → List ℕ → Answer  -- the cells marked at all, those marked 2, and the chart
  outcome : Status → ℕ → Answer  -- of a run, with the steps made

-- The chart that was handed in, as the call leaves it: as it was, unless a survey was accepted.
abbrev pub chart_left : List ℕ → Answer → List ℕ
chart_left chart done = chart
chart_left chart (refused n) = chart
chart_left chart (word w) = chart
chart_left chart (surveyed marked marked_2 after) = after
chart_left chart (outcome status n) = chart

-- A bench is idle, with its cells and with every register 0, or a visit is open, with its machine and how it stands.
pub data State : Type 0 where
  idle : List Word → State
  visiting : Machine → Status → State

abbrev pub cells_of : State → List Word
cells_of (idle cells) = cells
cells_of (visiting m status) = m.cells

-- Does before call answer after: the call, made in the state before, gives the answer and leaves the state after. A call that a state does not allow has
-- no rule there, and a refusal changes nothing.
pub data Does : State → Call → Answer → State → Type 0 where
  -- a word goes into a cell, and no other cell changes; refused (1) at or beyond the size
  places :
      {cells : List Word} {a : ℕ} {w : Word} → a < length cells →
      Does (idle cells) (placing a w) done (idle (slice_set cells a w))
  places_no_cell :
      {cells : List Word} {a : ℕ} {w : Word} → length cells ≤ a →
      Does (idle cells) (placing a w) (refused 1) (idle cells)
  -- the word of a cell; refused (1) at or beyond the size
  reads_cell :
      {cells : List Word} {a : ℕ} → a < length cells →
      Does (idle cells) (reading a) (word (at cells a)) (idle cells)
  reads_no_cell :
      {cells : List Word} {a : ℕ} → length cells ≤ a →
      Does (idle cells) (reading a) (refused 1) (idle cells)
  -- the survey of a hand; refused (6) where the chart is shorter than the size
  surveys :
      {cells hand : List Word} {chart chart' : List ℕ} {marked marked_2 : ℕ} → length cells ≤ length chart →
      Charted hand cells chart chart' marked marked_2 →
      Does (idle cells) (survey hand chart) (surveyed marked marked_2 chart') (idle cells)
  surveys_short :
      {cells hand : List Word} {chart : List ℕ} → length chart < length cells →
      Does (idle cells) (survey hand chart) (refused 6) (idle cells)
  -- the hand is copied into the registers, and the visit is running
  opens :
      {cells hand : List Word} →
      Does (idle cells) (opening hand) done (visiting (record { registers = hand; cells = cells }) Running)
  -- a run goes on from where the visit stands
  runs :
      {m m' : Machine} {status status' : Status} {budget n : ℕ} → Runs budget m status n m' status' →
      Does (visiting m status) (run budget) (outcome status' n) (visiting m' status')
  -- the word of a register; refused (2) above 15
  reads_register :
      {m : Machine} {status : Status} {i : ℕ} → i < 16 →
      Does (visiting m status) (register_reading i) (word (at m.registers i)) (visiting m status)
  reads_no_register :
      {m : Machine} {status : Status} {i : ℕ} → 16 ≤ i →
      Does (visiting m status) (register_reading i) (refused 2) (visiting m status)
  -- the registers are 0 again, and the cells stay
  closes :
      {m : Machine} {status : Status} →
      Does (visiting m status) closing done (idle m.cells)

-- The calls made so far with their answers, the newest first.
abbrev pub History : Type 0
History = List (Call × Answer)

-- Leads size history state: a bench made over `size` cells, all of them integer 0, stands in `state` after the calls of `history`, each made on what the
-- one before it left.
pub data Leads (size : ℕ) : History → State → Type 0 where
  made : Leads size [] (idle (replicate size zero_word))
  next :
      {history : History} {before after : State} {call : Call} {answer : Answer} →
      Leads size history before → Does before call answer after →
      Leads size ((call, answer) ∷ history) after
