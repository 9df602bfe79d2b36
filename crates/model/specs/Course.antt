-- How runs go: each has one end, one goes on where another was left, and the last step of a stopped one changed nothing.
use Rattle.std.specs.Prelude.{◌≡◌, ℕ, suc, ◌+◌, ◌<◌, None}
use Rattle.words.specs.declared.refusal.Refusal.{Refusal}
use Rattle.words.specs.Refusals.{refusal_number}
use Rattle.model.specs.declared.fault.Fault.{Fault}
use Rattle.model.specs.declared.fault.Fault.TheVariants.{NotExecutable, NoCell}
use Rattle.model.specs.declared.status.Status.{Status}
use Rattle.model.specs.declared.status.Status.TheVariants.{Running, Halted, Failed}
use Rattle.model.specs.Machine.{Machine, halts, faults}
use Rattle.model.specs.Step.{step, place}
use Rattle.model.specs.Run.{Runs}

-- What a run comes to: the steps that it made, and the machine and the status that it left.
pub record End : Type 0 where
  pub steps : ℕ
  pub machine : Machine
  pub status : Status

abbrev pub Ends : ℕ → Machine → Status → End → Type 0
Ends budget m status e = Runs budget m status e.steps e.machine e.status

-- Every run has an end, and only one.
abbrev pub RunsEndOnce : Type 0
RunsEndOnce =
    (budget : ℕ) (m : Machine) (status : Status) →
    (e : End) × Ends budget m status e × ((f : End) → Ends budget m status f → f ≡ e)

-- The end of one run and then of another, as that of one run.
abbrev pub after : End → End → End
after e f = record { steps = e.steps + f.steps; machine = f.machine; status = f.status }

-- A run of at most b steps, and from where it was left one of at most c, are the run of at most b + c: where the first stopped, the second makes no step.
abbrev pub RunsCompose : Type 0
RunsCompose =
    (b c : ℕ) (m : Machine) (status : Status) (e f : End) →
    Ends b m status e → Ends c e.machine e.status f → Ends (b + c) m status (after e f)

-- The machine m stops at its next step, and the visit then stands so.
pub data Stops (m : Machine) : Status → Type 0 where
  by_halt : step m ≡ halts → Stops m Halted
  by_fault : {f : Fault} → step m ≡ faults f → Stops m (Failed f (place m))

-- The course of a run that begins running: it uses its whole budget and is running still, or some steps within the budget lead to a machine that stops
-- at the next one, and that is the machine it leaves, as the halt or fault found it.
pub data Course (budget : ℕ) (m : Machine) : End → Type 0 where
  whole : {m' : Machine} → Course budget m (record { steps = budget; machine = m'; status = Running })
  stopped : {k : ℕ} {m' : Machine} {status : Status} → k < budget → Runs k m Running k m' Running → Stops m' status → Course budget m (record { steps = suc k; machine = m'; status = status })

abbrev pub RunsTakeACourse : Type 0
RunsTakeACourse = (budget : ℕ) (m : Machine) (e : End) → Ends budget m Running e → Course budget m e

-- A fault has no place only where the pc holds an integer, and there it is that the pc does not execute.
abbrev pub PlacelessNotExecutable : Type 0
PlacelessNotExecutable = (m : Machine) (f : Fault) → step m ≡ faults f → place m ≡ None → f ≡ NotExecutable

-- A fault for a missing cell carries the refusal 1.
abbrev pub MissingCellsCarryRefusal : Type 0
MissingCellsCarryRefusal = (m : Machine) (refusal : Refusal) → step m ≡ faults (NoCell refusal) → refusal_number refusal ≡ 1
