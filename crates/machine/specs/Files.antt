-- The registers as a row of words, and what is done to one of them.
use Rattle.std.specs.Prelude.{◌≡◌, ℕ, cond, List, map, Ok, Err, Result, nat_lt, slice_set}
use Rattle.words.specs.Word.{Word, at}
use Rattle.words.specs.Meaning.{meaning}
use Rattle.memory.specs.Row.{Answer, given, refused}
use Rattle.model.specs.declared.fault.Fault.{Fault}
use Rattle.model.specs.Machine.{put, faulting}
use Rattle.model.specs.Effects.{shifting}
use Rattle.machine.specs.declared.registers.Registers.{Registers}

-- The words of the registers, from register 0, the pc.
abbrev pub file : Registers → List Word
file r = map meaning r.words

-- Reading a register, refused (2) above 15.
abbrev pub register_read : List Word → ℕ → Answer Word
register_read words n = cond (nat_lt n 16) (given (at words n)) (refused 2)

-- Shifted words n by r words': the register n has what the rules of `lea` put there, and the others what they had; or the rules fault, and all have what
-- they had.
abbrev pub Shifted : List Word → ℕ → Word → Result (Unit {0}) Fault → List Word → Type 0
Shifted words n by (Ok u) words' = (shifting n (at words n) by ≡ put n (at words' n)) × (words' ≡ slice_set words n (at words' n))
Shifted words n by (Err f) words' = (shifting n (at words n) by ≡ faulting f) × (words' ≡ words)
