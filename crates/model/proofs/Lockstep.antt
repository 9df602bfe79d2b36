-- Two machines with the same registers, and the same cells outside a set that the first one's visit does not reach, make the same steps.
use Rattle.std.proofs.Common.{◌≡◌, ℕ, suc, ◌<◌, Bool, true, false, cond, T, ltb, List, length, set, sym, refl, ap, ◌∙◌, subst, ltb→lt, length-set, get_or-set_other, get_or-set_same}
use native.Mathlib.Decide.{ℕ_discrete}
use Rattle.words.specs.Permissions.{reads, executes}
use Rattle.words.specs.Word.{Cap, Word, integer, capability, zero_word, at, Covers, covers}
use Rattle.model.specs.declared.fault.Fault.{Fault}
use Rattle.model.specs.declared.status.Status.{Status}
use Rattle.model.specs.declared.status.Status.TheVariants.{Failed}
use Rattle.model.specs.Faults.{missing_cell}
use Rattle.model.specs.Machine.{Machine, Effect, put, read, write, pass, jump, halting, faulting, Stepped, moved, halts, faults}
use Rattle.model.specs.Numbers.{top}
use Rattle.model.specs.Checks.{check}
use Rattle.model.specs.Step.{instruction_in, obeyed, fetched, request, advanced, advance, perform, step, place_of}
use Rattle.model.specs.Run.{Runs, spent, already_halted, already_failed, steps_on, step_halts, step_faults}
use Rattle.model.specs.Survey.{Reached}
use Rattle.model.proofs.Rows.{and_left, and_right, covered}
use Rattle.model.proofs.Allowed as allowed
use Rattle.model.proofs.Allowed.{Allowed, request_allowed}
use Rattle.model.proofs.Visit.{Visit, visit_step, derived_reaches, reads_not_O, executes_not_O}

-- the same words outside the set
abbrev pub Agree : (ℕ → Type 0) → List Word → List Word → Type 0
Agree S x y = (a : ℕ) → ¬ S a → at x a ≡ at y a

pub record Pair (S : ℕ → Type 0) (m m' : Machine) : Type 0 where
  pub registers : m.registers ≡ m'.registers
  pub size : length m.cells ≡ length m'.cells
  pub cells : Agree S m.cells m'.cells

-- two steps that come to the same
abbrev Like : (ℕ → Type 0) → Stepped → Stepped → Type 0
Like S (moved m) (moved m') = Pair S m m'
Like S (moved m) halts = ⊥
Like S (moved m) (faults f) = ⊥
Like S halts (moved m) = ⊥
Like S halts halts = Unit {0}
Like S halts (faults f) = ⊥
Like S (faults f) (moved m) = ⊥
Like S (faults f) halts = ⊥
Like S (faults f) (faults g) = f ≡ g

-- words set alike at one address agree there, and elsewhere as before
pub agree_set : (S : ℕ → Type 0) (x y : List Word) (a : ℕ) (w : Word) → length x ≡ length y → a < length x → Agree S x y → Agree S (set x a w) (set y a w)
agree_set S x y a w size exists agree b out =
    elim (ℕ_discrete b a) [
      | yes same ↦ subst (λ (k : ℕ). at (set x a w) k ≡ at (set y a w) k) (sym same)
          (get_or-set_same x a w zero_word exists ∙ sym (get_or-set_same y a w zero_word (subst (λ (n : ℕ). a < n) size exists)))
      | no apart ↦ get_or-set_other x a b w zero_word apart ∙ agree b out ∙ sym (get_or-set_other y a b w zero_word apart)
    ]

check_same : (b : Bool) (f : Fault) (e e' : Effect) → (T b → e ≡ e') → check b f e ≡ check b f e'
unfolding check
check_same true f e e' h = h tt
check_same false f e e' h = refl

fetched_same : (r x y : List Word) (w : Word) → at r 0 ≡ w → length x ≡ length y → ((pc : Cap) → at r 0 ≡ capability pc → T (executes pc.permission) → Covers pc pc.cursor → pc.cursor < length x → at x pc.cursor ≡ at y pc.cursor) → fetched r x w ≡ fetched r y w
fetched_same r x y (integer z) found size same = refl
fetched_same r x y (capability pc) found size same =
    check_same _ _ _ _ (λ t.
    check_same (ltb pc.cursor (length x)) missing_cell (obeyed r (instruction_in (at x pc.cursor))) (obeyed r (instruction_in (at y pc.cursor)))
    (λ u. ap (λ (w : Word). obeyed r (instruction_in w))
    (same pc found (and_left (executes pc.permission) (covers pc pc.cursor) t) (covered pc pc.cursor (and_right (executes pc.permission) (covers pc pc.cursor) t)) (ltb→lt pc.cursor (length x) u)))
    ∙ ap (λ (n : ℕ). check (ltb pc.cursor n) missing_cell (obeyed r (instruction_in (at y pc.cursor)))) size)

chosen_like : (S : ℕ → Type 0) (b : Bool) (m m' : Machine) (f : Fault) → Pair S m m' → Like S (cond b (moved m) (faults f)) (cond b (moved m') (faults f))
chosen_like S true m m' f p = p
chosen_like S false m m' f p = refl

advanced_like : (S : ℕ → Type 0) (r x y : List Word) (w : Word) → length x ≡ length y → Agree S x y → Like S (advanced r x w) (advanced r y w)
advanced_like S r x y (integer z) size agree = refl
advanced_like S r x y (capability pc) size agree = chosen_like S (ltb pc.cursor top) _ _ _ (record { registers = refl; size = size; cells = agree })

advance_like : (S : ℕ → Type 0) (r x y : List Word) → length x ≡ length y → Agree S x y → Like S (advance r x) (advance r y)
advance_like S r x y size agree = advanced_like S r x y (at r 0) size agree

-- where the cell exists in both
there_like : (S : ℕ → Type 0) (a n n' : ℕ) (s s' : Stepped) (f : Fault) → n ≡ n' → (a < n → Like S s s') → Like S (cond (ltb a n) s (faults f)) (cond (ltb a n') s' (faults f))
there_like S a n n' s s' f e k = subst (λ (m : ℕ). Like S (cond (ltb a n) s (faults f)) (cond (ltb a m) s' (faults f))) e (by_test (ltb a n) (λ t. k (ltb→lt a n t)))
  where
    by_test : (b : Bool) → (T b → Like S s s') → Like S (cond b s (faults f)) (cond b s' (faults f))
    by_test true h = h tt
    by_test false h = refl

perform_like : (S : ℕ → Type 0) (r x y : List Word) (e : Effect) → length x ≡ length y → Agree S x y → ((i : ℕ) (c : Cap) (a : ℕ) → at r i ≡ capability c → T (reads c.permission) → Covers c a → a < length x → ¬ S a) → Allowed r e → Like S (perform r x e) (perform r y e)
unfolding perform
perform_like S r x y (put d w) size agree out (allowed.puts made) = advance_like S (set r d w) x y size agree
perform_like S r x y (read d a) size agree out (allowed.reads_through {c = c} i found can within) =
    there_like S a (length x) (length y) _ _ _ size (λ exists. subst (λ (w : Word). Like S (advance (set r d (at x a)) x) (advance (set r d w) y)) (agree a (out i c a found can within exists))
    (advance_like S (set r d (at x a)) x y size agree))
perform_like S r x y (write a w) size agree out (allowed.writes_through i found can within storable made) =
    there_like S a (length x) (length y) _ _ _ size (λ exists. advance_like S r (set x a w) (set y a w) (length-set x a w ∙ size ∙ sym (length-set y a w)) (agree_set S x y a w size exists agree))
perform_like S r x y pass size agree out allowed.passes = advance_like S r x y size agree
perform_like S r x y (jump w) size agree out (allowed.jumps made) = record { registers = refl; size = size; cells = agree }
perform_like S r x y halting size agree out allowed.stops = tt
perform_like S r x y (faulting f) size agree out (allowed.stops_by proper) = refl

-- what two runs come to
pub record Ran (S : ℕ → Type 0) (n n' : ℕ) (m m' : Machine) (s s' : Status) : Type 0 where
  pub count : n ≡ n'
  pub status : s ≡ s'
  pub machines : Pair S m m'

module _ (S : ℕ → Type 0) (hand cells : List Word) (apart : (a : ℕ) → Reached hand cells a → ¬ S a) where
  step_like : (m m' : Machine) → Visit hand cells m → Pair S m m' → Like S (step m) (step m')
  unfolding step request
  step_like m m' v p =
      let size : length m.cells ≡ length m'.cells = p.size in
      let here : (a : ℕ) → a < length m.cells → a < length cells = λ a h. subst (λ (n : ℕ). a < n) v.size h in
      subst (λ (r : List Word). Like S (step m) (step (record { registers = r; cells = m'.cells }))) p.registers
      (subst (λ (e : Effect). Like S (perform m.registers m.cells (request m)) (perform m.registers m'.cells e))
      (fetched_same m.registers m.cells m'.cells (at m.registers 0) refl size (λ pc found can within exists.
      p.cells pc.cursor (apart pc.cursor (derived_reaches hand cells pc pc.cursor (v.registers 0 pc found) (executes_not_O pc.permission can) within (here pc.cursor exists)))))
      (perform_like S m.registers m.cells m'.cells (request m) size p.cells
      (λ i c a found can within exists. apart a (derived_reaches hand cells c a (v.registers i c found) (reads_not_O c.permission can) within (here a exists)))
      (request_allowed m)))

  both_step : (m m' : Machine) (s s' : Stepped) → step m ≡ s → step m' ≡ s' → Visit hand cells m → Pair S m m' → Like S s s'
  both_step m m' s s' e e' v p = subst (λ (x : Stepped). Like S x s') e (subst (λ (x : Stepped). Like S (step m) x) e' (step_like m m' v p))

  pub runs_alike : {budget n n' : ℕ} {m m' x x' : Machine} {status s s' : Status} → Runs budget m status n x s → Runs budget m' status n' x' s' → Visit hand cells m → Pair S m m' → Ran S n n' x x' s s'
  runs_alike spent spent v p = record { count = refl; status = refl; machines = p }
  runs_alike already_halted already_halted v p = record { count = refl; status = refl; machines = p }
  runs_alike already_failed already_failed v p = record { count = refl; status = refl; machines = p }
  runs_alike (steps_on {m = m} {m' = y} e rest) (steps_on {m = m'} {m' = y'} e' rest') v p =
      let more = runs_alike rest rest' (visit_step hand cells m y v e).0 (both_step m m' (moved y) (moved y') e e' v p) in
      record { count = ap suc more.count; status = more.status; machines = more.machines }
  runs_alike (steps_on {m = m} {m' = y} e rest) (step_halts {m = m'} e') v p = absurd (both_step m m' (moved y) halts e e' v p)
  runs_alike (steps_on {m = m} {m' = y} e rest) (step_faults {m = m'} {f = f} e') v p = absurd (both_step m m' (moved y) (faults f) e e' v p)
  runs_alike (step_halts {m = m} e) (steps_on {m = m'} {m' = y} e' rest) v p = absurd (both_step m m' halts (moved y) e e' v p)
  runs_alike (step_halts e) (step_halts e') v p = record { count = refl; status = refl; machines = p }
  runs_alike (step_halts {m = m} e) (step_faults {m = m'} {f = f} e') v p = absurd (both_step m m' halts (faults f) e e' v p)
  runs_alike (step_faults {m = m} {f = f} e) (steps_on {m = m'} {m' = y} e' rest) v p = absurd (both_step m m' (faults f) (moved y) e e' v p)
  runs_alike (step_faults {m = m} {f = f} e) (step_halts {m = m'} e') v p = absurd (both_step m m' (faults f) halts e e' v p)
  runs_alike (step_faults {m = m} {f = f} e) (step_faults {m = m'} {f = g} e') v p =
      let same : f ≡ g = both_step m m' (faults f) (faults g) e e' v p in
      record { count = refl; status = λ i. Failed (same i) (place_of (at (p.registers i) 0)); machines = p }
