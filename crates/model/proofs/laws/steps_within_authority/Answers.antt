use Rattle.model.proofs.laws.steps_within_authority.Goals as goal
use Rattle.model.proofs.Authority.{steps_within_authority}

pub returns : goal.returns
returns c = steps_within_authority
