use Rattle.survey.proofs.Skipping.{new_marked}
use Rattle.survey.proofs.skips.Skips.new.Goals as goal

pub returns : goal.returns
returns c = new_marked 65536
