use Rattle.model.proofs.laws.placeless_not_executable.Goals as goal
use Rattle.model.proofs.Course.{placeless_not_executable}

pub returns : goal.returns
returns c = placeless_not_executable
