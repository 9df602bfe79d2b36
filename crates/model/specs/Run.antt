-- Runs: the steps of a machine in turn, under a budget.
use Rattle.std.specs.Prelude.{◌≡◌, ℕ, zero, suc, Option}
use Rattle.model.specs.declared.fault.Fault.{Fault}
use Rattle.model.specs.declared.status.Status.{Status}
use Rattle.model.specs.declared.status.Status.TheVariants.{Running, Halted, Failed}
use Rattle.model.specs.Machine.{Machine, moved, halts, faults}
use Rattle.model.specs.Step.{step, place}

-- Runs budget m status n m' status': a run of at most `budget` steps, from the machine m in `status`, makes n steps and ends with the machine m' in
-- `status'`.
pub data Runs : ℕ → Machine → Status → ℕ → Machine → Status → Type 0 where
  -- the budget is spent
  spent : {m : Machine} → Runs zero m Running zero m Running
  -- a visit that has halted or failed makes no step, and stays so
  already_halted : {budget : ℕ} {m : Machine} → Runs budget m Halted zero m Halted
  already_failed : {budget : ℕ} {m : Machine} {f : Fault} {at : Option ℕ} → Runs budget m (Failed f at) zero m (Failed f at)
  -- a step, and then the rest
  steps_on :
      {budget n : ℕ} {m m' m'' : Machine} {status : Status} → step m ≡ moved m' →
      Runs budget m' Running n m'' status → Runs (suc budget) m Running (suc n) m'' status
  -- a step that halts or faults counts, changes nothing and ends the run
  step_halts : {budget : ℕ} {m : Machine} → step m ≡ halts → Runs (suc budget) m Running (suc zero) m Halted
  step_faults : {budget : ℕ} {m : Machine} {f : Fault} → step m ≡ faults f → Runs (suc budget) m Running (suc zero) m (Failed f (place m))
