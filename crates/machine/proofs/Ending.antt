-- Where a step of the code goes on with a run, or ends it.
use Rattle.std.proofs.Common.{◌≡◌, ℕ, ◌+◌, ◌<◌, Option, Ok, Err, Result, sym, subst}
use Rattle.model.specs.declared.fault.Fault.{Fault}
use Rattle.model.specs.declared.status.Status.TheVariants.{Running, Halted as HaltedStatus, Failed}
use Rattle.model.specs.Machine.{Machine, Stepped, moved, halts, faults}
use Rattle.model.specs.Step.{step, place}
use Rattle.model.specs.Run.{Runs}
use Rattle.model.proofs.Running.{After, after_more, after_halt, after_fault}
use Rattle.machine.specs.declared.flow.Flow.{Flow}
use Rattle.machine.specs.declared.flow.Flow.TheVariants.{Moved, Halted}
use Rattle.machine.specs.Flows.{flow_of, machine_after, Lands}

-- what a step came to, by the code's answer
lands_by : (m : Machine) (s : Stepped) (r : Result Flow Fault) (m' : Machine) → r ≡ flow_of s → m' ≡ machine_after s m → Lands m s r m'
lands_by m (moved m'') r m' e h = subst (λ (x : Result Flow Fault). Lands m (moved m'') x m') (sym e) (λ i. moved (sym h i))
lands_by m halts r m' e h = subst (λ (x : Result Flow Fault). Lands m halts x m') (sym e) (λ i. halts, h)
lands_by m (faults f) r m' e h = subst (λ (x : Result Flow Fault). Lands m (faults f) x m') (sym e) (λ i. faults f, h)

module _ (start m m' : Machine) (i : ℕ) (reached : After start i m) (left : m' ≡ machine_after (step m) m) where
  pub moved_on : Ok Moved ≡ flow_of (step m) → After start (i + 1) m'
  moved_on e = after_more start i m m' reached (lands_by m (step m) (Ok Moved) m' e left)

  pub halted_run : (budget : ℕ) → i < budget → Ok Halted ≡ flow_of (step m) → Runs budget start Running (i + 1) m' HaltedStatus
  halted_run budget h e =
      let lands = lands_by m (step m) (Ok Halted) m' e left in
      subst (λ (x : Machine). Runs budget start Running (i + 1) x HaltedStatus) (sym lands.1) (after_halt start i budget m reached h lands.0)

  pub failed_run : (budget : ℕ) (f : Fault) (at : Option ℕ) → i < budget → Err f ≡ flow_of (step m) → at ≡ place m' → Runs budget start Running (i + 1) m' (Failed f at)
  failed_run budget f at h e p =
      let lands = lands_by m (step m) (Err f) m' e left in
      subst (λ (x : Option ℕ). Runs budget start Running (i + 1) m' (Failed f x)) (sym p)
      (subst (λ (x : Machine). Runs budget start Running (i + 1) x (Failed f (place x))) (sym lands.1) (after_fault start i budget m f reached h lands.0))
