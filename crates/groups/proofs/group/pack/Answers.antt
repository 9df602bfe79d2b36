use Rattle.std.proofs.Common.{ap, ◌∙◌}
use Rattle.groups.specs.Packing.{unpacked}
use Rattle.groups.specs.Groups.{group_word}
use Rattle.groups.proofs.Bytes.{number_group}
use Rattle.groups.proofs.group.pack.Goals as goal

pub returns-clause-back : goal.returns-clause-back
returns-clause-back c = ap group_word c.to_be_bytes.ensures ∙ ap unpacked (number_group c.encode.result c.encode.type_inv) ∙ c.encode.ensures.back
