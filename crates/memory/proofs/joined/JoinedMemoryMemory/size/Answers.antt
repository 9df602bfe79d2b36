use Rattle.std.proofs.Common.{arith}
use Rattle.memory.proofs.Joins.{joined_length}
use Rattle.memory.proofs.joined.JoinedMemoryMemory.size.Goals as goal

pub returns-clause-value : goal.returns-clause-value
returns-clause-value g c =
    let m = c.args.self.now in
    let length = joined_length (g.F.Memory.row m.first) (g.S.Memory.row m.second) in
    omega arith
