-- From what a memory answers to what the rules say of a call.
use Rattle.std.proofs.Common.{◌≡◌, ℕ, ◌<◌, ◌≤◌, ◌≢◌, List, length, set, Ok, Err, Result, sym, refl, ◌∙◌, subst, ⊎_elim, arith}
use Rattle.std.proofs.lemmas.List.{set_past}
use Rattle.std.proofs.lemmas.Bool.{cases_lt}
use Rattle.std.proofs.lemmas.Bool.Decides.{nat_tests}
use Rattle.words.specs.declared.refusal.Refusal.{Refusal}
use Rattle.words.specs.declared.word.Word.{Word as Held}
use Rattle.words.specs.Word.{Word, at}
use Rattle.words.specs.Refusals.{refusal_number}
use Rattle.words.specs.Meaning.{meaning}
use Rattle.memory.specs.Row as row
use Rattle.memory.specs.Row.{load_answer, loaded, store_answer, stored_answer}
use Rattle.model.specs.Bench.{refused, word, idle, Does, placing, reading, places, places_no_cell, reads_cell, reads_no_cell, survey, surveys, surveys_short, visiting, register_reading, reads_register, reads_no_register}
use Rattle.machine.specs.Files.{register_read}
use Rattle.model.specs.declared.status.Status.{Status}
use Rattle.model.specs.declared.status.Status.TheVariants.{Running, Halted, Failed}
use Rattle.model.specs.Machine.{Machine}
use Rattle.model.specs.Run.{Runs, already_halted, already_failed}
use Rattle.survey.specs.declared.surveying.Counts.{Counts}
use Rattle.survey.specs.Surveyed.{Surveyed}
use Rattle.bench.specs.Answers.{done_answer, word_answer, survey_answer}

-- Where an address lies, by what a store or a load answered.
stored : (cells : List Word) (a : ℕ) → row.given tt ≡ stored_answer cells a → a < length cells
stored cells a e = ⊎_elim (λ (h : a < length cells). h) (λ (h : length cells ≤ a). let z : ◌≡◌ {A = ℕ} 0 1 = grind (arith, nat_tests) in absurd (omega arith)) (cases_lt a (length cells))

not_stored : (cells : List Word) (a n : ℕ) → row.refused n ≡ stored_answer cells a → (length cells ≤ a) × (n ≡ 1)
not_stored cells a n e = grind (arith, nat_tests)

read_at : (cells : List Word) (a : ℕ) (w : Word) → row.given w ≡ loaded cells a → (a < length cells) × (w ≡ at cells a)
read_at cells a w e = grind (arith, nat_tests)

not_read : (cells : List Word) (a n : ℕ) → row.refused n ≡ loaded cells a → (length cells ≤ a) × (n ≡ 1)
not_read cells a n e = grind (arith, nat_tests)

pub place_does : (cells cells' : List Word) (a : ℕ) (w : Word) (r : Result (Unit {0}) Refusal) → store_answer r ≡ stored_answer cells a → cells' ≡ set cells a w →
    Does (idle cells) (placing a w) (done_answer r) (idle cells')
place_does cells cells' a w (Ok u) e after = subst (λ (c : List Word). Does (idle cells) (placing a w) (done_answer (Ok u)) (idle c)) (sym after) (places (stored cells a e))
place_does cells cells' a w (Err x) e after =
    let no = not_stored cells a (refusal_number x) e in
    let same : cells' ≡ cells = after ∙ set_past cells a w no.0 in
    subst (λ (c : List Word). Does (idle cells) (placing a w) (refused (refusal_number x)) (idle c)) (sym same)
    (subst (λ (n : ℕ). Does (idle cells) (placing a w) (refused n) (idle cells)) (sym no.1) (places_no_cell no.0))

pub read_does : (cells : List Word) (a : ℕ) (r : Result Held Refusal) → load_answer r ≡ loaded cells a → Does (idle cells) (reading a) (word_answer r) (idle cells)
read_does cells a (Ok w) e =
    let at_a = read_at cells a (meaning w) e in
    subst (λ (v : Word). Does (idle cells) (reading a) (word v) (idle cells)) (sym at_a.1) (reads_cell at_a.0)
read_does cells a (Err x) e =
    let no = not_read cells a (refusal_number x) e in
    subst (λ (n : ℕ). Does (idle cells) (reading a) (refused n) (idle cells)) (sym no.1) (reads_no_cell no.0)

pub survey_does : (hand cells : List Word) (chart chart' : List ℕ) (r : Result Counts Refusal) → Surveyed hand cells chart r chart' →
    Does (idle cells) (survey hand chart) (survey_answer r chart') (idle cells)
survey_does hand cells chart chart' (Ok counts) s = surveys s.0 s.1
survey_does hand cells chart chart' (Err e) s =
    subst (λ (n : ℕ). Does (idle cells) (survey hand chart) (refused n) (idle cells)) (sym s.1) (surveys_short s.0)

register_at : (words : List Word) (i : ℕ) (w : Word) → row.given w ≡ register_read words i → (i < 16) × (w ≡ at words i)
register_at words i w e = grind (arith, nat_tests)

no_register : (words : List Word) (i n : ℕ) → row.refused n ≡ register_read words i → (16 ≤ i) × (n ≡ 2)
no_register words i n e = grind (arith, nat_tests)

pub register_does : (m : Machine) (status : Status) (i : ℕ) (r : Result Held Refusal) → load_answer r ≡ register_read m.registers i →
    Does (visiting m status) (register_reading i) (word_answer r) (visiting m status)
register_does m status i (Ok w) e =
    let there = register_at m.registers i (meaning w) e in
    subst (λ (v : Word). Does (visiting m status) (register_reading i) (word v) (visiting m status)) (sym there.1) (reads_register there.0)
register_does m status i (Err x) e =
    let no = no_register m.registers i (refusal_number x) e in
    subst (λ (n : ℕ). Does (visiting m status) (register_reading i) (refused n) (visiting m status)) (sym no.1) (reads_no_register no.0)

-- A visit that has stopped makes no step.
pub stopped : (budget : ℕ) (m : Machine) (status : Status) → status ≢ Running → Runs budget m status 0 m status
stopped budget m Running going = absurd (going refl)
stopped budget m Halted going = already_halted
stopped budget m (Failed cause place) going = already_failed
