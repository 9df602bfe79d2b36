use Rattle.std.proofs.Common.{rules}
use Rattle.sheet.proofs.Groups.{reads}
use Rattle.sheet.proofs.reading.read_group.Goals as goal

pub returns : goal.returns
returns c = reads c.args.bytes.now c.args.group _ _ _ c.unpack.ensures.value c.map_err.ensures.cases (λ e m made. search rules)
