-- A call has one answer and leaves one state, a refusal changes nothing, and a call has an answer exactly where it is allowed.
use Rattle.std.proofs.Common.{◌≡◌, ℕ, ◌<◌, ◌≤◌, length, refl, arith}
use native.Mathlib.Decide.{dec_lt}
use Rattle.model.specs.Bench.{Call, placing, reading, survey, opening, run, register_reading, closing, Answer, refused, surveyed, outcome, State, idle, visiting, Does, places, places_no_cell, reads_cell, reads_no_cell, surveys, surveys_short, opens, runs, reads_register, reads_no_register, closes}
use Rattle.model.specs.Calls.{CallsDetermined, ChartsDetermined, RefusalsChangeNothing, Allows, Answered, AllowedAnswered}
use Rattle.model.proofs.Marking.{charts_exist}
use Rattle.model.proofs.Charts.{same_chart, same_count, same_count_2}
use Rattle.model.proofs.Course.{runs_one, runs_end_once}

-- ── One answer ──

pub charts_determined : ChartsDetermined
charts_determined hand cells chart x y m m_2 n n_2 one two = (
  same_chart (λ a. ⊥) hand cells cells refl (λ a out. refl) (λ a r no. no) chart x y m m_2 n n_2 one two,
  same_count (λ a. ⊥) hand cells cells refl (λ a out. refl) (λ a r no. no) chart x y m m_2 n n_2 one two,
  same_count_2 (λ a. ⊥) hand cells cells refl (λ a out. refl) (λ a r no. no) chart x y m m_2 n n_2 one two,
)

-- within and beyond the size at once
never : {A : Type 0} (a size : ℕ) → a < size → size ≤ a → A
never a size h k = absurd (omega arith)

same_does : {before s t : State} {call : Call} {x y : Answer} → Does before call x s → Does before call y t → (x ≡ y) × (s ≡ t)
same_does (places h) (places h') = (refl, refl)
same_does (places {cells = cells} {a = a} h) (places_no_cell h') = never a (length cells) h h'
same_does (places_no_cell {cells = cells} {a = a} h) (places h') = never a (length cells) h' h
same_does (places_no_cell h) (places_no_cell h') = (refl, refl)
same_does (reads_cell h) (reads_cell h') = (refl, refl)
same_does (reads_cell {cells = cells} {a = a} h) (reads_no_cell h') = never a (length cells) h h'
same_does (reads_no_cell {cells = cells} {a = a} h) (reads_cell h') = never a (length cells) h' h
same_does (reads_no_cell h) (reads_no_cell h') = (refl, refl)
same_does (surveys {cells = cells} {hand = hand} {chart = chart} {chart' = x} {marked = m} {marked_2 = m_2} h k) (surveys {chart' = y} {marked = n} {marked_2 = n_2} h' k') =
    let same = charts_determined hand cells chart x y m m_2 n n_2 k k' in
    (λ i. surveyed (same.1 i) (same.2 i) (same.0 i), refl)
same_does (surveys {cells = cells} {chart = chart} h k) (surveys_short h') = never (length chart) (length cells) h' h
same_does (surveys_short {cells = cells} {chart = chart} h) (surveys h' k) = never (length chart) (length cells) h h'
same_does (surveys_short h) (surveys_short h') = (refl, refl)
same_does opens opens = (refl, refl)
same_does (runs r) (runs r') =
    let same = runs_one r r' in
    (λ i. outcome (same i).status (same i).steps, λ i. visiting (same i).machine (same i).status)
same_does (reads_register h) (reads_register h') = (refl, refl)
same_does (reads_register {i = i} h) (reads_no_register h') = never i 16 h h'
same_does (reads_no_register {i = i} h) (reads_register h') = never i 16 h' h
same_does (reads_no_register h) (reads_no_register h') = (refl, refl)
same_does closes closes = (refl, refl)

pub calls_determined : CallsDetermined
calls_determined before call x y s t d d' = same_does d d'

-- ── Refusals ──

pub refusals_change_nothing : RefusalsChangeNothing
refusals_change_nothing before call n after d = unchanged d
  where
    unchanged : {before after : State} {call : Call} {n : ℕ} → Does before call (refused n) after → after ≡ before
    unchanged (places_no_cell h) = refl
    unchanged (reads_no_cell h) = refl
    unchanged (surveys_short h) = refl
    unchanged (reads_no_register h) = refl

-- ── An answer, where the call is allowed ──

allowed_answered : (before : State) (call : Call) → Allows before call → Answered before call
allowed_answered (idle cells) (placing a w) t = elim (dec_lt a (length cells)) [
  | yes h ↦ record { answer = _; after = _; does = places h }
  | no h ↦ record { answer = _; after = _; does = places_no_cell (omega arith) }
]
allowed_answered (idle cells) (reading a) t = elim (dec_lt a (length cells)) [
  | yes h ↦ record { answer = _; after = _; does = reads_cell h }
  | no h ↦ record { answer = _; after = _; does = reads_no_cell (omega arith) }
]
allowed_answered (idle cells) (survey hand chart) t = elim (dec_lt (length chart) (length cells)) [
  | yes h ↦ record { answer = _; after = _; does = surveys_short h }
  | no h ↦ record { answer = _; after = _; does = surveys (omega arith) (charts_exist hand cells chart (omega arith)).charted }
]
allowed_answered (idle cells) (opening hand) t = record { answer = _; after = _; does = opens }
allowed_answered (idle cells) (run budget) t = absurd t
allowed_answered (idle cells) (register_reading i) t = absurd t
allowed_answered (idle cells) closing t = absurd t
allowed_answered (visiting m status) (placing a w) t = absurd t
allowed_answered (visiting m status) (reading a) t = absurd t
allowed_answered (visiting m status) (survey hand chart) t = absurd t
allowed_answered (visiting m status) (opening hand) t = absurd t
allowed_answered (visiting m status) (run budget) t = record { answer = _; after = _; does = runs (runs_end_once budget m status).1 }
allowed_answered (visiting m status) (register_reading i) t = elim (dec_lt i 16) [
  | yes h ↦ record { answer = _; after = _; does = reads_register h }
  | no h ↦ record { answer = _; after = _; does = reads_no_register (omega arith) }
]
allowed_answered (visiting m status) closing t = record { answer = _; after = _; does = closes }

does_allowed : {before after : State} {call : Call} {answer : Answer} → Does before call answer after → Allows before call
does_allowed (places h) = tt
does_allowed (places_no_cell h) = tt
does_allowed (reads_cell h) = tt
does_allowed (reads_no_cell h) = tt
does_allowed (surveys h k) = tt
does_allowed (surveys_short h) = tt
does_allowed opens = tt
does_allowed (runs r) = tt
does_allowed (reads_register h) = tt
does_allowed (reads_no_register h) = tt
does_allowed closes = tt

pub allowed_exactly : AllowedAnswered
allowed_exactly before call = (allowed_answered before call, λ a. does_allowed a.does)
