use Rattle.std.proofs.Common.{sym, ◌∙◌, arith}
use Rattle.words.specs.Word.{zero_word}
use Rattle.memory.specs.Packs.{packed_length}
use Rattle.memory.proofs.Answering.{load_given, load_refused}
use Rattle.memory.proofs.Packs.{packed_at}
use Rattle.memory.proofs.packed.load_packed.Goals as goal

pub returns-then-address-packed_size : goal.returns-then-address-packed_size
returns-then-address-packed_size c = load_refused _ _ (omega (arith, packed_length c.args.bytes.now))

pub returns : goal.returns
returns c =
    let size = packed_length c.args.bytes.now in
    load_given _ _ _ (omega arith) (c.read_group.ensures ∙ sym (packed_at c.args.bytes.now c.args.address zero_word (omega arith)))
