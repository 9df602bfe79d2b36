-- A trial: the calls that it makes on a bench, with their answers, and what stands at its end.
use Rattle.std.specs.Prelude.{ℕ, zero, suc, List, [], ◌∷◌, length, Ok, Err, Result}
use Rattle.words.specs.Word.{Word, at}
use Rattle.groups.specs.declared.hand.Hand.{Hand}
use Rattle.groups.specs.Hands.{hand_words}
use Rattle.memory.specs.Packs.{packed_row}
use Rattle.model.specs.Bench.{placing, survey, opening, run, closing, done, surveyed, outcome, idle, History, Leads}
use Rattle.model.specs.Findings.{Findings}
use Rattle.sheet.specs.declared.malformed.Malformed.{Malformed}
use Rattle.sheet.specs.Sheets.{Says, MalformedAt}
use Rattle.trial.specs.declared.report.Ending.{Ending}
use Rattle.trial.specs.declared.report.Report.{Report}

-- The placings of the first words, each into the cell of its own number, after the calls of a history. The newest call comes first.
abbrev pub placings : List Word → ℕ → History → History
placings words zero history = history
placings words (suc k) history = (placing k (at words k), done) ∷ placings words k history

-- The calls of a trial: every word is placed, the hand is surveyed into a chart, a visit is opened with it, run and closed.
abbrev pub trial_calls : List Word → List Word → ℕ → List ℕ → List ℕ → Ending → History
trial_calls words hand budget chart charted ending =
    (closing, done)
    ∷ (run budget, outcome ending.outcome.status ending.outcome.steps)
    ∷ (opening hand, done)
    ∷ (survey hand chart, surveyed ending.counts.marked ending.counts.writable charted)
    ∷ placings words (length words) []

-- Those calls, with these answers, lead from a new bench with a cell for each word to an idle bench with the cells `after`, and there the findings stand.
pub record Ends (words hand : List Word) (budget : ℕ) (ending : Ending) (after : List Word) : Type 0 where
  pub chart : List ℕ
  pub charted : List ℕ
  pub leads : Leads (length words) (trial_calls words hand budget chart charted ending) (idle after)
  pub findings : Findings (length words) (trial_calls words hand budget chart charted ending) (idle after)

-- A sheet is tried: the report has the sheet's groups, the answers of the calls, and the groups that are left.
pub record Tried (input : List ℕ) (report : Report) : Type 0 where
  pub budget : ℕ
  pub hand : Hand
  pub says : Says input budget hand report.before.now
  pub ends : Ends (packed_row report.before.now) (hand_words hand) budget report.ending (packed_row report.after.now)

-- Any other input is refused, with the place where it shows that it is no sheet.
abbrev pub Tries : List ℕ → Result Report Malformed → Type 0
Tries input (Ok report) = Tried input report
Tries input (Err m) = MalformedAt input m
