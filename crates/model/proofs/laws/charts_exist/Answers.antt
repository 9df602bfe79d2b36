use Rattle.model.proofs.laws.charts_exist.Goals as goal
use Rattle.model.proofs.Marking.{charts_exist}

pub returns : goal.returns
returns c = charts_exist
