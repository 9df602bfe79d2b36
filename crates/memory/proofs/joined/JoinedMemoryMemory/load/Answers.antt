use Rattle.std.proofs.Common.{arith}
use Rattle.memory.proofs.Answering.{load_refused}
use Rattle.memory.proofs.Joins.{joined_length, load_first, load_second}
use Rattle.memory.proofs.joined.JoinedMemoryMemory.load.Goals as goal

pub returns-then-address-seam : goal.returns-then-address-seam
returns-then-address-seam g c =
    let m = c.args.self.now in
    load_first (g.F.Memory.row m.first) (g.S.Memory.row m.second) c.args.address (omega arith) (omega arith) _ c.load.ensures

pub returns-then-address-ge-CELLS : goal.returns-then-address-ge-CELLS
returns-then-address-ge-CELLS g c =
    let m = c.args.self.now in
    load_refused _ _ (omega (arith, joined_length (g.F.Memory.row m.first) (g.S.Memory.row m.second)))

pub returns : goal.returns
returns g c =
    let m = c.args.self.now in
    load_second (g.F.Memory.row m.first) (g.S.Memory.row m.second) c.args.address (omega arith)
    _ c.size-seam.ensures.value (omega arith) _ c.load-2.ensures
