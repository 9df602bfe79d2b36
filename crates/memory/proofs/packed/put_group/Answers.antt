use Rattle.std.proofs.Common.{◌++◌, drop, sym, ap, ◌∙◌}
use Rattle.groups.specs.Packing.{or_zero}
use Rattle.groups.specs.Groups.{group_word}
use Rattle.memory.specs.Packs.{plain_group, word_group}
use Rattle.memory.proofs.packed.put_group.Goals as goal

pub returns : goal.returns
unfolding plain_group word_group
returns c =
    let packed = c.pack.ensures in
    record {
      bytes = ap (λ g. g ++ drop 8 c.args.bytes.now) (c.copy_from_slice.ensures.after ∙ packed.bytes);
      back = ap (λ g. or_zero (group_word g)) (sym packed.bytes) ∙ ap or_zero packed.back;
    }
