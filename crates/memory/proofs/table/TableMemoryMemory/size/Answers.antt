use Rattle.std.proofs.Common.{arith}
use Rattle.memory.specs.Tables.{table_length}
use Rattle.memory.proofs.table.TableMemoryMemory.size.Goals as goal

pub returns-clause-value : goal.returns-clause-value
returns-clause-value c = let length = table_length c.args.self.now.numbers.now in omega arith
