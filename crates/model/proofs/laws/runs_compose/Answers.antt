use Rattle.model.proofs.laws.runs_compose.Goals as goal
use Rattle.model.proofs.Course.{runs_compose}

pub returns : goal.returns
returns c = runs_compose
