use Rattle.model.proofs.laws.allowed_answered.Goals as goal
use Rattle.model.proofs.Calls.{allowed_exactly}

pub returns : goal.returns
returns c = allowed_exactly
