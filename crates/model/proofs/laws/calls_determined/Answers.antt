use Rattle.model.proofs.laws.calls_determined.Goals as goal
use Rattle.model.proofs.Calls.{calls_determined}

pub returns : goal.returns
returns c = calls_determined
