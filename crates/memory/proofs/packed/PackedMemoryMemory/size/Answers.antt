use Rattle.std.proofs.Common.{arith}
use Rattle.memory.specs.Packs.{packed_length}
use Rattle.memory.proofs.packed.PackedMemoryMemory.size.Goals as goal

pub returns-clause-value : goal.returns-clause-value
returns-clause-value c = let length = packed_length c.args.self.now.bytes.now in omega arith
