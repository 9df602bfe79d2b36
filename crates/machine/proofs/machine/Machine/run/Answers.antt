use Rattle.std.proofs.Common.{◌∙◌, arith}
use Rattle.model.proofs.Running.{after_spent}
use Rattle.machine.proofs.Ending.{moved_on, halted_run, failed_run}
use Rattle.machine.proofs.machine.Machine.run.Goals as goal
use Rattle.machine.proofs.machine.Machine.run.Goals.{in-Ok-Halted, in-Err}

pub loop-i-preserved : goal.loop-i-preserved
loop-i-preserved g c =
    let inv = c.loop-i.invariant in
    (moved_on _ _ _ _ inv.0 c.step.ensures.machine (cc c.step.ensures.flow), c.step.ensures.rest ∙ inv.1, c.step.ensures.lent ∙ inv.2)

pub returns-in-loop-i-clause-runs : goal.returns-in-loop-i-clause-runs
returns-in-loop-i-clause-runs g c =
    let reached = c.loop-i.invariant.0 in
    elim c.match-step.branch [
      | in-Ok-Halted w ↦ rw w.status-is (halted_run _ _ _ _ reached c.step.ensures.machine c.args.budget (omega arith) (cc c.step.ensures.flow))
      | in-Err w ↦
          rw w.status-is
          (failed_run _ _ _ _ reached c.step.ensures.machine c.args.budget w.in-Err.cause w.place.result (omega arith) (cc c.step.ensures.flow)
          w.place.ensures)
    ]

pub returns-clause-runs : goal.returns-clause-runs
returns-clause-runs g c = after_spent _ _ _ _ c.loop-i.invariant.0 (omega arith)
