use Rattle.std.proofs.Common.{set, refl, ap, ◌∙◌, arith}
use Rattle.std.proofs.lemmas.List.{drop-set-lt}
use Rattle.groups.specs.Packing.{or_zero}
use Rattle.memory.specs.Tables.{table_row, table_size, table_length}
use Rattle.memory.proofs.Answering.{store_given, below, from_on}
use Rattle.memory.proofs.Tables.{table_set}
use Rattle.memory.proofs.table.TableMemoryMemory.store.Goals as goal

pub returns-then-address-size-clause-numbers : goal.returns-then-address-size-clause-numbers
returns-then-address-size-clause-numbers c =
    let ns = c.args.self.now.numbers.now in
    let size = table_length ns in
    from_on c.args.address (table_size ns) _ ns (omega arith)

pub bounds-self-address : goal.bounds-self-address
bounds-self-address c = omega (arith, table_length c.args.self.now.numbers.now)

pub returns : goal.returns
returns c =
    let ns = c.args.self.now.numbers.now in
    let a = c.args.address in
    let size = table_length ns in
    let n = c.encode.result in
    record {
      answer = store_given _ _ (omega arith);
      after = table_set ns a (omega arith) n ∙ ap (λ w. set (table_row ns) a (or_zero w)) c.encode.ensures.back;
      rest = drop-set-lt 65536 ns a n (omega arith);
      lent = refl;
      numbers = ap (set ns a) c.encode.ensures.value ∙ below a (table_size ns) _ ns (omega arith);
    }
