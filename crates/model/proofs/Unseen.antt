-- Two lists of calls that differ only in words placed into a set that the first does not reach come to the same outside it.
use Rattle.std.proofs.Common.{◌≡◌, ℕ, ◌<◌, ◌≤◌, Bool, T, ◌≢◌, List, ◌∷◌, length, set, sym, refl, ap, ◌∙◌, subst, arith, get_or-set_other}
use Rattle.words.specs.Word.{Word, zero_word, at}
use Rattle.model.specs.declared.status.Status.{Status}
use Rattle.model.specs.Machine.{Machine}
use Rattle.model.specs.Run.{Runs}
use Rattle.model.specs.Survey.{Reached}
use Rattle.model.specs.Bench.{Call, placing, Answer, word, surveyed, outcome, State, visiting, cells_of, Does, places, places_no_cell, reads_cell, reads_no_cell, surveys, surveys_short, opens, runs, reads_register, reads_no_register, closes, History, Leads, made, next}
use Rattle.model.specs.Seeing.{Reaches, by_survey, by_reading, Alike, none, same, placed, SameOutside, both_idle, both_visiting, answers, UnreachedUnseen}
use Rattle.model.proofs.Lockstep.{Agree, Pair, agree_set, Ran, runs_alike}
use Rattle.model.proofs.Charts.{same_chart, same_count, same_count_2}
use Rattle.model.proofs.Story.{Opening, here, later, Opened, Told, told}

-- what the hand of the visit that is open reached when it was opened, a call of the list reached
reached_opening : {size : ℕ} {hand cells : List Word} {history : History} (a : ℕ) → Opening size hand cells history → Reached hand cells a → Reaches size a history
reached_opening a (here l) r = Reaches.by_opening l r
reached_opening a (later quiet o) r = Reaches.earlier (reached_opening a o r)

outside_set : (S : ℕ → Type 0) (x y : List Word) (a : ℕ) (v w : Word) → S a → Agree S x y → Agree S (set x a v) (set y a w)
outside_set S x y a v w inside agree b out =
    let apart : b ≢ a = λ e. out (subst S (sym e) inside) in
    get_or-set_other x a b v zero_word apart ∙ agree b out ∙ sym (get_or-set_other y a b w zero_word apart)

too_far : {A : Type 0} (n size a : ℕ) (m : ℕ) → n ≡ size → m ≡ size → a < n → m ≤ a → A
too_far n size a m p q h k = absurd (omega arith)

module _ (secret : ℕ → Bool) where
  abbrev S : ℕ → Type 0
  S a = T (secret a)

  same_run : (size : ℕ) (history : History) (m m' x x' : Machine) (status s s' : Status) (budget n n' : ℕ) → ((a : ℕ) → S a → ¬ Reaches size a history) → Opened size history m → Pair S m m' → Runs budget m status n x s → Runs budget m' status n' x' s' → (outcome s n ≡ outcome s' n') × SameOutside secret (visiting x s) (visiting x' s')
  same_run size history m m' x x' status s s' budget n n' unreached o p r r' =
      let ran : Ran S n n' x x' s s' = runs_alike S o.hand o.cells (λ a h inside. unreached a inside (reached_opening a o.opening h)) r r' o.visit p in (
        λ i. outcome (ran.status i) (ran.count i),
        subst (λ (z : Status). SameOutside secret (visiting x s) (visiting x' z)) ran.status (both_visiting ran.machines.registers ran.machines.cells),
      )

  -- the same call on two benches
  same_call : {size : ℕ} {history : History} {before after before' after' : State} {call : Call} {answer answer' : Answer} → Leads size history before → Told size history before → length (cells_of before') ≡ size → ((a : ℕ) → S a → ¬ Reaches size a ((call, answer) ∷ history)) → SameOutside secret before before' → Does before call answer after → Does before' call answer' after' → (answer ≡ answer') × SameOutside secret after after'
  same_call l t q unreached (both_idle {cells = x} {cells' = y} agree) (places {a = a} {w = w} h) (places h') = (refl, both_idle (agree_set S x y a w (t.0 ∙ sym q) h agree))
  same_call {size} l t q unreached (both_idle {cells = x} {cells' = y} agree) (places {a = a} h) (places_no_cell h') = too_far (length x) size a (length y) t.0 q h h'
  same_call {size} l t q unreached (both_idle {cells = x} {cells' = y} agree) (places_no_cell {a = a} h) (places h') = too_far (length y) size a (length x) q t.0 h' h
  same_call l t q unreached (both_idle agree) (places_no_cell h) (places_no_cell h') = (refl, both_idle agree)
  same_call l t q unreached (both_idle agree) (reads_cell {a = a} h) (reads_cell h') = (ap word (agree a (λ inside. unreached a inside by_reading)), both_idle agree)
  same_call {size} l t q unreached (both_idle {cells = x} {cells' = y} agree) (reads_cell {a = a} h) (reads_no_cell h') = too_far (length x) size a (length y) t.0 q h h'
  same_call {size} l t q unreached (both_idle {cells = x} {cells' = y} agree) (reads_no_cell {a = a} h) (reads_cell h') = too_far (length y) size a (length x) q t.0 h' h
  same_call l t q unreached (both_idle agree) (reads_no_cell h) (reads_no_cell h') = (refl, both_idle agree)
  same_call l t q unreached (both_idle {cells = x} {cells' = y} agree) (surveys {hand = hand} {chart = chart} {chart' = c} {marked = m} {marked_2 = m_2} h k) (surveys {chart' = d} {marked = n} {marked_2 = n_2} h' k') =
      let size : length x ≡ length y = t.0 ∙ sym q in
      let out : (a : ℕ) → Reached hand x a → ¬ S a = λ a r inside. unreached a inside (by_survey l r) in
      let e = same_count S hand x y size agree out chart c d m m_2 n n_2 k k' in
      let e_2 = same_count_2 S hand x y size agree out chart c d m m_2 n n_2 k k' in
      let f = same_chart S hand x y size agree out chart c d m m_2 n n_2 k k' in
      (λ i. surveyed (e i) (e_2 i) (f i), both_idle agree)
  same_call {size} l t q unreached (both_idle {cells = x} {cells' = y} agree) (surveys {chart = chart} h k) (surveys_short h') = too_far (length y) size (length chart) (length x) q t.0 h' h
  same_call {size} l t q unreached (both_idle {cells = x} {cells' = y} agree) (surveys_short {chart = chart} h) (surveys h' k') = too_far (length x) size (length chart) (length y) t.0 q h h'
  same_call l t q unreached (both_idle agree) (surveys_short h) (surveys_short h') = (refl, both_idle agree)
  same_call l t q unreached (both_idle agree) opens opens = (refl, both_visiting refl agree)
  same_call {size} {history} l t q unreached (both_visiting {m = m} {m' = m'} e agree) (runs {m' = x} {status = status} {status' = s} {budget = budget} {n = n} r) (runs {m' = x'} {status' = s'} {n = n'} r') =
      same_run size history m m' x x' status s s' budget n n' (λ a inside h. unreached a inside (Reaches.earlier h)) t.1 (record { registers = e; size = t.0 ∙ sym q; cells = agree }) r r'
  same_call l t q unreached (both_visiting e agree) (reads_register {i = i} h) (reads_register h') = (λ j. word (at (e j) i), both_visiting e agree)
  same_call l t q unreached (both_visiting e agree) (reads_register {i = i} h) (reads_no_register h') = absurd (omega arith)
  same_call l t q unreached (both_visiting e agree) (reads_no_register {i = i} h) (reads_register h') = absurd (omega arith)
  same_call l t q unreached (both_visiting e agree) (reads_no_register h) (reads_no_register h') = (refl, both_visiting e agree)
  same_call l t q unreached (both_visiting e agree) closes closes = (refl, both_idle agree)

  -- two placings at one address of the set
  placed_call : {size a : ℕ} {v w : Word} {before after before' after' : State} {answer answer' : Answer} → S a → length (cells_of before) ≡ size → length (cells_of before') ≡ size → SameOutside secret before before' → Does before (placing a v) answer after → Does before' (placing a w) answer' after' → (answer ≡ answer') × SameOutside secret after after'
  placed_call {a = a} {v = v} {w = w} inside p q (both_idle {cells = x} {cells' = y} agree) (places h) (places h') = (refl, both_idle (outside_set S x y a v w inside agree))
  placed_call {size} {a} inside p q (both_idle {cells = x} {cells' = y} agree) (places h) (places_no_cell h') = too_far (length x) size a (length y) p q h h'
  placed_call {size} {a} inside p q (both_idle {cells = x} {cells' = y} agree) (places_no_cell h) (places h') = too_far (length y) size a (length x) q p h' h
  placed_call inside p q (both_idle agree) (places_no_cell h) (places_no_cell h') = (refl, both_idle agree)
  placed_call inside p q (both_visiting e agree) d d' = elim d [ ]

  alike : {size : ℕ} {history history' : History} {state state' : State} → Alike secret history history' → ((a : ℕ) → S a → ¬ Reaches size a history) → Leads size history state → Leads size history' state' → (answers history ≡ answers history') × SameOutside secret state state'
  alike none unreached made made = (refl, both_idle (λ a out. refl))
  alike (same k) unreached (next l d) (next l' d') =
      let before = alike k (λ a inside h. unreached a inside (Reaches.earlier h)) l l' in
      let now = same_call l (told l) (told l').0 unreached before.1 d d' in
      (λ i. now.0 i ∷ before.0 i, now.1)
  alike (placed inside k) unreached (next l d) (next l' d') =
      let before = alike k (λ a inside h. unreached a inside (Reaches.earlier h)) l l' in
      let now = placed_call inside (told l).0 (told l').0 before.1 d d' in
      (λ i. now.0 i ∷ before.0 i, now.1)

pub unreached_unseen : {size : ℕ} {history : History} {state : State} → Leads size history state → UnreachedUnseen size history state
unreached_unseen l secret unreached history' state' l' k = alike secret k unreached l l'
