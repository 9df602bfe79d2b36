use Rattle.std.proofs.Common.{◌*◌, arith}
use Rattle.words.specs.Meaning.{meaning}
use Rattle.memory.specs.Packs.{word_group}
use Rattle.memory.proofs.Packs.{put_rest, group_length}
use Rattle.memory.proofs.packed.write_group.Goals as goal

pub returns-clause-bytes : goal.returns-clause-bytes
returns-clause-bytes c =
    let w = meaning c.args.word.now in
    put_rest c.args.bytes.now c.put_group.new.bytes (word_group w) (8 * c.args.address) (omega arith) (group_length w) c.put_group.ensures.bytes
