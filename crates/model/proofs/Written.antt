-- A cell has the word of its last placing, or was writable in the survey of a visit opened since.
use Rattle.std.proofs.Common.{◌≡◌, ℕ, ◌<◌, Bool, true, false, cond, T, eqb, ◌≢◌, ◌⊎◌, List, ◌∷◌, length, set, sym, refl, ◌∙◌, subst, inl, inr, eqb→eq, get_or-set_other, get_or-set_same}
use lib.Dec.{eqb_refl}
use lib.ListN.{get_or-replicate}
use Rattle.words.specs.Word.{Word, zero_word, at}
use Rattle.model.specs.Survey.{Writable}
use Rattle.model.specs.Bench.{Call, placing, reading, survey, opening, run, register_reading, closing, Answer, done, refused, outcome, State, cells_of, Does, places, places_no_cell, reads_cell, reads_no_cell, surveys, surveys_short, opens, runs, reads_register, reads_no_register, closes, History, Leads, made, next}
use Rattle.model.specs.Writing.{earlier, last_placed, NotPlaced, WritableSince, opened, OnlyWritableChange}
use Rattle.model.proofs.Visit.{visit_runs}
use Rattle.model.proofs.Story.{not_placed, suc_apart, Opening, here, later, Opened, Told, told}

pub since_opening : {size : ℕ} {hand cells : List Word} {history : History} (a : ℕ) → Opening size hand cells history → Writable hand cells a → WritableSince size a history
since_opening a (here l) w = opened l w
since_opening a (later quiet o) w = earlier (quiet a) (since_opening a o w)

abbrev Right : ℕ → ℕ → History → List Word → Type 0
Right size a history cells = (at cells a ≡ last_placed a history) ⊎ WritableSince size a history

-- a call that places no word, and leaves the cell or has it writable
carried : (size a : ℕ) (history : History) (call : Call) (answer : Answer) (before after : List Word) → NotPlaced a (call, answer) → last_placed a ((call, answer) ∷ history) ≡ last_placed a history → at after a ≡ at before a → Right size a history before → Right size a ((call, answer) ∷ history) after
carried size a history call answer before after quiet last same right = elim right [ inl e ↦ inl (same ∙ e ∙ sym last) | inr w ↦ inr (earlier quiet w) ]

-- the two ways of a placing, by the test of its address
placed_there : (size a b : ℕ) (w : Word) (history : History) (cells : List Word) (test : Bool) → eqb a b ≡ test → b < length cells → Right size a history cells → (at (set cells b w) a ≡ cond test w (last_placed a history)) ⊎ WritableSince size a ((placing b w, done) ∷ history)
placed_there size a b w history cells true e exists right =
    let same : a ≡ b = eqb→eq a b (subst T (sym e) tt) in
    inl (subst (λ (x : ℕ). at (set cells b w) x ≡ w) (sym same) (get_or-set_same cells b w zero_word exists))
placed_there size a b w history cells false e exists right =
    let apart : a ≢ b = λ same. subst T e (subst (λ (x : ℕ). T (eqb a x)) same (eqb_refl a)) in
    elim right [
      | inl k ↦ inl (get_or-set_other cells b a w zero_word apart ∙ k)
      | inr k ↦ inr (earlier (not_placed a (placing b w) done (λ same. apart (sym same))) k)
    ]

written_does : {size : ℕ} {history : History} {before after : State} {call : Call} {answer : Answer} (a : ℕ) → Told size history before → Does before call answer after → Right size a history (cells_of before) → Right size a ((call, answer) ∷ history) (cells_of after)
written_does {size} {history} a t (places {cells = cells} {a = b} {w = w} exists) right = placed_there size a b w history cells (eqb a b) refl exists right
written_does {size} {history} a t (places_no_cell {cells = cells} {a = b} {w = w} h) right = carried size a history (placing b w) (refused 1) cells cells (not_placed a (placing b w) (refused 1) (suc_apart a)) refl refl right
written_does {size} {history} a t (reads_cell {cells = cells} {a = b} h) right = carried size a history (reading b) _ cells cells (not_placed a (reading b) _ (suc_apart a)) refl refl right
written_does {size} {history} a t (reads_no_cell {cells = cells} {a = b} h) right = carried size a history (reading b) _ cells cells (not_placed a (reading b) _ (suc_apart a)) refl refl right
written_does {size} {history} a t (surveys {cells = cells} {hand = hand} {chart = chart} h k) right = carried size a history (survey hand chart) _ cells cells (not_placed a (survey hand chart) _ (suc_apart a)) refl refl right
written_does {size} {history} a t (surveys_short {cells = cells} {hand = hand} {chart = chart} h) right = carried size a history (survey hand chart) _ cells cells (not_placed a (survey hand chart) _ (suc_apart a)) refl refl right
written_does {size} {history} a t (opens {cells = cells} {hand = hand}) right = carried size a history (opening hand) done cells cells (not_placed a (opening hand) done (suc_apart a)) refl refl right
written_does {size} {history} a t (runs {m = m} {m' = m'} {status' = status'} {budget = budget} {n = n} r) right =
    let o : Opened size history m = t.1 in
    let quiet : NotPlaced a (run budget, outcome status' n) = not_placed a (run budget) (outcome status' n) (suc_apart a) in
    elim ((visit_runs o.hand o.cells r o.visit).1 a) [
      | inl same ↦ carried size a history (run budget) (outcome status' n) m.cells m'.cells quiet refl same right
      | inr writable ↦ inr (earlier quiet (since_opening a o.opening writable))
    ]
written_does {size} {history} a t (reads_register {m = m} {i = i} h) right = carried size a history (register_reading i) _ m.cells m.cells (not_placed a (register_reading i) _ (suc_apart a)) refl refl right
written_does {size} {history} a t (reads_no_register {m = m} {i = i} h) right = carried size a history (register_reading i) _ m.cells m.cells (not_placed a (register_reading i) _ (suc_apart a)) refl refl right
written_does {size} {history} a t (closes {m = m}) right = carried size a history closing done m.cells m.cells (not_placed a closing done (suc_apart a)) refl refl right

pub written : {size : ℕ} {history : History} {state : State} → Leads size history state → (a : ℕ) → a < size → Right size a history (cells_of state)
written {size} made a h = inl (get_or-replicate size a zero_word zero_word h)
written (next l d) a h = written_does a (told l) d (written l a h)

pub only_writable_change : {size : ℕ} {history : History} {state : State} → Leads size history state → OnlyWritableChange size history state
only_writable_change l a h differs = elim (written l a h) [ inl same ↦ absurd (differs same) | inr since ↦ since ]
