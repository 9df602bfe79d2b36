use Rattle.model.proofs.laws.quotient_nearest.Goals as goal
use Rattle.model.proofs.Arithmetic.{quotient_nearest}

pub returns : goal.returns
returns c = quotient_nearest
