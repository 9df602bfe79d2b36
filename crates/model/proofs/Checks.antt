-- What a proof has to see through where the code makes a step as the rules say it.
use Rattle.model.specs.Checks.{check, with_capability, with_integer, with_address, with_code, with_pair}
use Rattle.model.specs.Effects.{effect}
use Rattle.model.specs.Step.{instruction_in, obeyed, request, perform, step}

-- every rule of a step at once: a proof that names it on its `unfolding` line sees through all of them
unfoldable pub rules : Unit {0}
unfolding step request obeyed instruction_in effect perform check with_capability with_integer with_address with_code with_pair
rules = tt
