use Rattle.model.proofs.laws.pairs_by_number.Goals as goal
use Rattle.model.proofs.Arithmetic.{pairs_by_number}

pub returns : goal.returns
returns c = pairs_by_number
