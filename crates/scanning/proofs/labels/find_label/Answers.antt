use Rattle.std.proofs.Common.{arith}
use Rattle.std.proofs.lemmas.Grind.{common_steps}
use Rattle.scanning.proofs.Scans.{lines_few}
use Rattle.scanning.proofs.labels.find_label.Goals as goal

pub loop-passed-init : goal.loop-passed-init
loop-passed-init c = grind (arith, common_steps, lines_few c.args.text.now)
