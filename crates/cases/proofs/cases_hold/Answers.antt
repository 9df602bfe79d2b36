use Rattle.cases.proofs.cases_hold.Goals as goal
use Rattle.cases.proofs.Steps.{all}

pub returns : goal.returns
returns c = all
