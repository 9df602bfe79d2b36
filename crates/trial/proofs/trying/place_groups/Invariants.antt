use Rattle.std.proofs.Common.{length}
use Rattle.memory.specs.Packs.{packed_row}
use Rattle.trial.proofs.Calls.{Placed, Cut}
use Rattle.trial.proofs.trying.place_groups.Given as goal

abbrev pub invariant-loop-address : goal.invariant-loop-address
invariant-loop-address g l =
    let row = g.M.Memory.row in
    let n = length l.yielded in
    record {
      placed : Placed (packed_row l.groups) (row l.initial.bench.memory) (row l.bench.memory) n;
      cut : Cut l.groups l.address-iterator.iter.rest.now l.address-iterator.iter.size l.address-iterator.count n;
    }
