use Rattle.model.proofs.laws.charts_determined.Goals as goal
use Rattle.model.proofs.Calls.{charts_determined}

pub returns : goal.returns
returns c = charts_determined
