use Rattle.std.proofs.Common.{sym, ◌∙◌, arith}
use Rattle.memory.specs.Tables.{table_length}
use Rattle.memory.proofs.Answering.{load_given}
use Rattle.memory.proofs.Tables.{table_at}
use Rattle.memory.proofs.table.TableMemoryMemory.load.Goals as goal

pub bounds-self-address : goal.bounds-self-address
bounds-self-address c = omega (arith, table_length c.args.self.now.numbers.now)

pub returns : goal.returns
returns c = load_given _ _ _ (omega arith) (c.plain_word.ensures ∙ sym (table_at c.args.self.now.numbers.now c.args.address (omega arith)))
