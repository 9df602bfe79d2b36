-- What a survey answers, and how it leaves the chart.
use Rattle.std.specs.Prelude.{◌≡◌, ℕ, ◌<◌, ◌≤◌, List, length, Ok, Err, Result}
use Rattle.words.specs.declared.refusal.Refusal.{Refusal}
use Rattle.words.specs.Word.{Word}
use Rattle.words.specs.Refusals.{refusal_number}
use Rattle.model.specs.Survey.{Charted}
use Rattle.survey.specs.declared.surveying.Counts.{Counts}

-- A chart that is at least as long as there are cells is charted, and the two counts are the answer. A shorter one is refused (6) and stays as it was.
abbrev pub Surveyed : List Word → List Word → List ℕ → Result Counts Refusal → List ℕ → Type 0
Surveyed hand cells before (Ok counts) after = (length cells ≤ length before) × Charted hand cells before after counts.marked counts.writable
Surveyed hand cells before (Err e) after = (length before < length cells) × (refusal_number e ≡ 6) × (after ≡ before)
