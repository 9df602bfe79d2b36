use Rattle.std.proofs.Common.{sym, refl, subst}
use Rattle.machine.specs.Flows.{machine_of}
use Rattle.model.specs.declared.status.Status.{Status}
use Rattle.model.specs.Bench.{run, outcome, visiting, Does, runs}
use Rattle.model.proofs.Stand.{lawful}
use Rattle.bench.proofs.Calls.{stopped}
use Rattle.bench.proofs.states.Visit.run.Goals as goal

pub returns-in-Running-clause-lawful : goal.returns-in-Running-clause-lawful
returns-in-Running-clause-lawful g c =
    let before = machine_of g.M.Memory.row c.args.self.now.machine in
    let after = machine_of g.M.Memory.row c.run-outcome.new.self in
    let r = c.run-outcome.result in
    lawful (subst (λ (s : Status). Does (visiting before s) (run c.args.budget) (outcome r.status r.steps) (visiting after r.status)) (sym c.in-Running.is)
    (runs c.run-outcome.ensures.runs))

pub returns-in_default : goal.returns-in_default
returns-in_default g c =
    let visit = c.args.self.now in
    record {
      lawful = lawful (runs (stopped c.args.budget (machine_of g.M.Memory.row visit.machine) visit.status c.in_default.not-Running));
      rest = refl;
      lent = refl;
    }
