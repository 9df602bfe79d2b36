use Rattle.std.proofs.Common.{◌≡◌, ◌+◌, ◌-◌, ◌*◌, take, drop, ap, ◌∙◌, arith}
use Rattle.words.specs.Meaning.{meaning}
use Rattle.groups.specs.Groups.{group_word, group_at}
use Rattle.groups.specs.Answers.{unpacking_of}
use Rattle.memory.specs.Packs.{plain_group}
use Rattle.memory.proofs.Packs.{means}
use Rattle.memory.proofs.packed.read_group.Goals as goal

pub returns : goal.returns
unfolding plain_group
returns c =
    let bs = c.args.bytes.now in
    let o = 8 * c.args.address in
    let eight : o + 8 - o ≡ 8 = omega arith in
    let there = c.unpack.ensures.value ∙ ap (λ n. unpacking_of (take n (drop o bs))) eight in
    ap meaning c.unwrap_or.ensures ∙ means (group_word (group_at bs o)) c.unpack.result there
