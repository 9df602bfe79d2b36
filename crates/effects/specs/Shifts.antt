-- Moving the cursor of one word in place.
use Rattle.std.specs.Prelude.{◌≡◌, ℕ, Ok, Err, Result}
use Rattle.words.specs.Word.{Word}
use Rattle.model.specs.declared.fault.Fault.{Fault}
use Rattle.model.specs.Machine.{put, faulting}
use Rattle.model.specs.Effects.{shifting}

-- Shifts w by r w': what the rules put into the register of w, whichever that is, is w'; or they fault, and w stays.
abbrev pub Shifts : Word → Word → Result (Unit {0}) Fault → Word → Type 0
Shifts w by (Ok u) w' = (d : ℕ) → shifting d w by ≡ put d w'
Shifts w by (Err f) w' = ((d : ℕ) → shifting d w by ≡ faulting f) × (w' ≡ w)
