use Rattle.model.specs.Bench.{closes}
use Rattle.model.proofs.Stand.{lawful}
use Rattle.bench.proofs.states.Visit.close.Goals as goal

pub returns-clause-lawful : goal.returns-clause-lawful
returns-clause-lawful g c = lawful closes
