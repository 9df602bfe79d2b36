use Rattle.model.proofs.laws.runs_end_once.Goals as goal
use Rattle.model.proofs.Course.{runs_end_once}

pub returns : goal.returns
returns c = runs_end_once
