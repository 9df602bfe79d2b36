use Rattle.model.proofs.Stand.{lawful}
use Rattle.bench.proofs.Calls.{read_does}
use Rattle.bench.proofs.states.Idle.read.Goals as goal

pub returns : goal.returns
returns g c = lawful (read_does (g.M.Memory.row c.args.self.now.memory) c.args.address c.load.result c.load.ensures)
