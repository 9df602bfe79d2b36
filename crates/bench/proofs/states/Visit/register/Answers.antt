use Rattle.machine.specs.Flows.{machine_of}
use Rattle.model.proofs.Stand.{lawful}
use Rattle.bench.proofs.Calls.{register_does}
use Rattle.bench.proofs.states.Visit.register.Goals as goal

pub returns : goal.returns
returns g c =
    let visit = c.args.self.now in
    lawful (register_does (machine_of g.M.Memory.row visit.machine) visit.status c.args.number c.read.result c.read.ensures)
