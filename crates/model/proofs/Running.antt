-- A run, made turn by turn: for a loop that steps a machine and counts.
use Rattle.std.proofs.Common.{◌≡◌, ℕ, suc, ◌+◌, ◌-◌, ◌<◌, ◌∙◌, subst, add-zero, arith}
use Rattle.model.specs.declared.fault.Fault.{Fault}
use Rattle.model.specs.declared.status.Status.{Status}
use Rattle.model.specs.declared.status.Status.TheVariants.{Running, Halted, Failed}
use Rattle.model.specs.Machine.{Machine, moved, halts, faults}
use Rattle.model.specs.Step.{step, place}
use Rattle.model.specs.Run.{Runs, spent, steps_on, step_halts, step_faults}

-- i steps lead from the machine `start` to the machine m: a run from m is the rest of one from `start`
pub record After (start : Machine) (i : ℕ) (m : Machine) : Type 0 where
  pub rest : (budget n : ℕ) (m' : Machine) (status : Status) → Runs budget m Running n m' status → Runs (i + budget) start Running (i + n) m' status

-- one step more
pub after_more : (start : Machine) (i : ℕ) (m m' : Machine) → After start i m → step m ≡ moved m' → After start (i + 1) m'
after_more start i m m' a e = record {
  rest = λ budget n m'' status r.
      let p : i + suc budget ≡ (i + 1) + budget = omega arith in
      let q : i + suc n ≡ (i + 1) + n = omega arith in
      subst (λ (k : ℕ). Runs ((i + 1) + budget) start Running k m'' status) q
      (subst (λ (k : ℕ). Runs k start Running (i + suc n) m'' status) p (a.rest (suc budget) (suc n) m'' status (steps_on e r)));
}

-- the budget is spent
pub after_spent : (start : Machine) (i budget : ℕ) (m : Machine) → After start i m → i ≡ budget → Runs budget start Running budget m Running
after_spent start i budget m a e = subst (λ (k : ℕ). Runs k start Running k m Running) (add-zero i ∙ e) (a.rest 0 0 m Running spent)

-- a step that ends the run within the budget
ends_within : (start : Machine) (i budget : ℕ) (m : Machine) (status : Status) → After start i m → i < budget → Runs (suc (budget - (i + 1))) m Running 1 m status → Runs budget start Running (i + 1) m status
ends_within start i budget m status a h r =
    let p : i + suc (budget - (i + 1)) ≡ budget = omega arith in
    subst (λ (k : ℕ). Runs k start Running (i + 1) m status) p (a.rest (suc (budget - (i + 1))) 1 m status r)

pub after_halt : (start : Machine) (i budget : ℕ) (m : Machine) → After start i m → i < budget → step m ≡ halts → Runs budget start Running (i + 1) m Halted
after_halt start i budget m a h e = ends_within start i budget m Halted a h (step_halts e)

pub after_fault : (start : Machine) (i budget : ℕ) (m : Machine) (f : Fault) → After start i m → i < budget → step m ≡ faults f → Runs budget start Running (i + 1) m (Failed f (place m))
after_fault start i budget m f a h e = ends_within start i budget m (Failed f (place m)) a h (step_faults e)
