-- A run has one end, runs compose, and a stopped run's last step changed nothing.
use Rattle.std.proofs.Common.{◌≡◌, ℕ, zero, suc, ◌+◌, Bool, true, false, cond, ltb, List, length, set, Some, None, Option, sym, refl, ap, ◌∙◌, subst, suc-le-suc, zero-le, suc-add, zero-add, arith}
use Rattle.words.specs.Word.{Word, integer, capability, at}
use Rattle.model.specs.declared.fault.Fault.{Fault}
use Rattle.model.specs.declared.fault.Fault.TheVariants.{NotExecutable}
use Rattle.model.specs.declared.status.Status.{Status}
use Rattle.model.specs.declared.status.Status.TheVariants.{Running, Halted, Failed}
use Rattle.model.specs.Machine.{Machine, Effect, put, read, write, pass, jump, halting, faulting, Stepped, moved, halts, faults}
use Rattle.model.specs.Numbers.{top}
use Rattle.model.specs.Step.{fetched, request, advanced, advance, perform, step, place, place_of}
use Rattle.model.specs.Run.{Runs, spent, already_halted, already_failed, steps_on, step_halts, step_faults}
use Rattle.model.specs.Course.{End, Ends, RunsEndOnce, RunsCompose, by_halt, by_fault, Course, whole, stopped, RunsTakeACourse, PlacelessNotExecutable, MissingCellsCarryRefusal}
use Rattle.model.proofs.Allowed.{Proper, Allowed, stops_by, request_allowed}

-- an end, by its parts
abbrev end_of : ℕ → Machine → Status → End
end_of n m status = record { steps = n; machine = m; status = status }

-- ── Every run has an end ──

-- some end of a run from here
record SomeEnd (budget : ℕ) (m : Machine) (status : Status) : Type 0 where
  reached : End
  ends : Ends budget m status reached

further : (budget : ℕ) (m : Machine) → ((m' : Machine) → SomeEnd budget m' Running) → (s : Stepped) → step m ≡ s → SomeEnd (suc budget) m Running
further budget m rest (moved m') e =
    let r : SomeEnd budget m' Running = rest m' in
    record { reached = end_of (suc r.reached.steps) r.reached.machine r.reached.status; ends = steps_on e r.ends }
further budget m rest halts e = record { reached = end_of 1 m Halted; ends = step_halts e }
further budget m rest (faults f) e = record { reached = end_of 1 m (Failed f (place m)); ends = step_faults e }

some_end : (budget : ℕ) (m : Machine) (status : Status) → SomeEnd budget m status
some_end budget m Halted = record { reached = end_of 0 m Halted; ends = already_halted }
some_end budget m (Failed f at) = record { reached = end_of 0 m (Failed f at); ends = already_failed }
some_end zero m Running = record { reached = end_of 0 m Running; ends = spent }
some_end (suc budget) m Running = further budget m (λ m'. some_end budget m' Running) (step m) refl

-- ── and only one ──

-- the machine that a step gives, and another one where it gives none
abbrev moved_to : Machine → Stepped → Machine
moved_to m (moved m') = m'
moved_to m halts = m
moved_to m (faults f) = m

abbrev fault_of : Fault → Stepped → Fault
fault_of g (moved m) = g
fault_of g halts = g
fault_of g (faults f) = f

-- which of the three ways a step goes
abbrev way : Stepped → ℕ
way (moved m) = 0
way halts = 1
way (faults f) = 2

both_ways : {A : Type 0} (m : Machine) (s t : Stepped) → step m ≡ s → step m ≡ t → (way s ≡ way t → A) → A
both_ways m s t p q k = k (ap way (sym p ∙ q))

pub runs_one : {budget n n' : ℕ} {m x x' : Machine} {status s s' : Status} → Runs budget m status n x s → Runs budget m status n' x' s' → end_of n x s ≡ end_of n' x' s'
runs_one spent spent = refl
runs_one already_halted already_halted = refl
runs_one already_failed already_failed = refl
runs_one (steps_on {budget = budget} {m' = y} e rest) (steps_on {n = k} {m' = y'} {m'' = z} {status = t} e' rest') =
    let same : y' ≡ y = ap (moved_to y) (sym e' ∙ e) in
    ap (λ (d : End). end_of (suc d.steps) d.machine d.status) (runs_one rest (subst (λ (w : Machine). Runs budget w Running k z t) same rest'))
runs_one (steps_on {m = m} {m' = y} e rest) (step_halts e') = both_ways m (moved y) halts e e' (λ z. absurd (omega arith))
runs_one (steps_on {m = m} {m' = y} e rest) (step_faults {f = f} e') = both_ways m (moved y) (faults f) e e' (λ z. absurd (omega arith))
runs_one (step_halts {m = m} e) (steps_on {m' = y} e' rest) = both_ways m halts (moved y) e e' (λ z. absurd (omega arith))
runs_one (step_halts e) (step_halts e') = refl
runs_one (step_halts {m = m} e) (step_faults {f = f} e') = both_ways m halts (faults f) e e' (λ z. absurd (omega arith))
runs_one (step_faults {m = m} {f = f} e) (steps_on {m' = y} e' rest) = both_ways m (faults f) (moved y) e e' (λ z. absurd (omega arith))
runs_one (step_faults {m = m} {f = f} e) (step_halts e') = both_ways m (faults f) halts e e' (λ z. absurd (omega arith))
runs_one (step_faults {m = m} {f = f} e) (step_faults {f = g} e') =
    let same : f ≡ g = ap (fault_of f) (sym e ∙ e') in
    λ i. end_of 1 m (Failed (same i) (place m))

pub runs_end_once : RunsEndOnce
runs_end_once budget m status =
    let some : SomeEnd budget m status = some_end budget m status in
    (some.reached, some.ends, λ f r. runs_one r some.ends)

-- ── Runs compose ──

joined : {b c n k : ℕ} {m m' x : Machine} {s t u : Status} → Runs b m s n m' t → Runs c m' t k x u → Runs (b + c) m s (n + k) x u
joined {c = c} {k = k} spent r = rw (zero-add c, zero-add k) r
joined already_halted already_halted = already_halted
joined already_failed already_failed = already_failed
joined {c = c} {k = k} (steps_on {budget = b} {n = n} e rest) r = rw (suc-add b c, suc-add n k) (steps_on e (joined rest r))
joined {c = c} (step_halts {budget = b} e) already_halted = rw (suc-add b c) (step_halts e)
joined {c = c} (step_faults {budget = b} e) already_failed = rw (suc-add b c) (step_faults e)

pub runs_compose : RunsCompose
runs_compose b c m status e f r s = joined r s

-- ── The course of a run ──

course_on : {budget : ℕ} {m m' : Machine} → step m ≡ moved m' → {e : End} → Course budget m' e → Course (suc budget) m (end_of (suc e.steps) e.machine e.status)
course_on e whole = whole
course_on e (stopped h r s) = stopped (suc-le-suc h) (steps_on e r) s

course : {budget n : ℕ} {m x : Machine} {status : Status} → Runs budget m Running n x status → Course budget m (end_of n x status)
course spent = whole
course (steps_on e rest) = course_on e (course rest)
course (step_halts e) = stopped (suc-le-suc zero-le) spent (by_halt e)
course (step_faults e) = stopped (suc-le-suc zero-le) spent (by_fault e)

pub runs_take_a_course : RunsTakeACourse
runs_take_a_course budget m e r = course r

-- ── No place ──

abbrev is_some : Option ℕ → Type 0
is_some None = ⊥
is_some (Some n) = Unit {0}

fetch_faults : (r cells : List Word) (w : Word) → place_of w ≡ None → fetched r cells w ≡ faulting NotExecutable
fetch_faults r cells (integer z) e = refl
fetch_faults r cells (capability pc) e = absurd (subst is_some e tt)

pub placeless_not_executable : PlacelessNotExecutable
unfolding step request perform
placeless_not_executable m f e none =
    let lost : step m ≡ faults NotExecutable = ap (perform m.registers m.cells) (fetch_faults m.registers m.cells (at m.registers 0) none) in
    ap (fault_of f) (sym e ∙ lost)

-- ── A missing cell ──

abbrev ProperStep : Stepped → Type 0
ProperStep (moved m) = Unit {0}
ProperStep halts = Unit {0}
ProperStep (faults f) = Proper f

chosen : (b : Bool) (s t : Stepped) → ProperStep s → ProperStep t → ProperStep (cond b s t)
chosen true s t p q = p
chosen false s t p q = q

advanced_proper : (r cells : List Word) (w : Word) → ProperStep (advanced r cells w)
advanced_proper r cells (integer z) = tt
advanced_proper r cells (capability pc) = chosen (ltb pc.cursor top) _ _ tt tt

advance_proper : (r cells : List Word) → ProperStep (advance r cells)
advance_proper r cells = advanced_proper r cells (at r 0)

perform_proper : (r cells : List Word) (e : Effect) → Allowed r e → ProperStep (perform r cells e)
unfolding perform
perform_proper r cells (put d w) a = advance_proper (set r d w) cells
perform_proper r cells (read d b) a = chosen (ltb b (length cells)) _ _ (advance_proper (set r d (at cells b)) cells) refl
perform_proper r cells (write b w) a = chosen (ltb b (length cells)) _ _ (advance_proper r (set cells b w)) refl
perform_proper r cells pass a = advance_proper r cells
perform_proper r cells (jump w) a = tt
perform_proper r cells halting a = tt
perform_proper r cells (faulting f) (stops_by proper) = proper

pub missing_cells_carry_refusal : MissingCellsCarryRefusal
unfolding step
missing_cells_carry_refusal m refusal e =
    subst ProperStep e (perform_proper m.registers m.cells (request m) (request_allowed m))
