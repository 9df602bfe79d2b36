use Rattle.std.proofs.Common.{arith}
use Rattle.memory.proofs.Joins.{told_apart}
use Rattle.memory.proofs.joined.JoinedMemory.into_parts.Goals as goal

pub returns-clause-apart : goal.returns-clause-apart
returns-clause-apart g c =
    let m = c.args.self in
    let F = g.F.Memory in
    let few = F.few in
    let bounded = F.bounded m.first in
    told_apart _ _ _ _ (omega arith)
