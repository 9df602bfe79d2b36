-- What an effect of the code is by the rules.
use Rattle.std.specs.Prelude.{◌≡◌, List, ℤ, Ok, Err, Result}
use Rattle.words.specs.Word.{Word, integer, at}
use Rattle.words.specs.Meaning.{meaning}
use Rattle.model.specs.declared.fault.Fault.{Fault}
use Rattle.model.specs.Machine.{put, read, write, pass, jump, halting, faulting}
use Rattle.model.specs.Machine.{Effect as Ruled}
use Rattle.model.specs.Checks.{with_integers}
use Rattle.model.specs.Effects.{shifting, entered}
use Rattle.effects.specs.declared.effect.Effect.{Effect}
use Rattle.effects.specs.declared.effect.Effect.TheVariants.{Put, Shift, Read, Write, Pass, Jump, Halt}

-- On registers with these words. Only two effects look at them: the shift of a cursor, whose checks are made where it is performed, on the register that
-- it moves, and a jump to the word of a register.
abbrev pub effect_on : List Word → Effect → Ruled
effect_on r (Put d w) = put d (meaning w)
effect_on r (Shift d w) = shifting d (at r d) (meaning w)
effect_on r (Read d a) = read d a
effect_on r (Write a w) = write a (meaning w)
effect_on r Pass = pass
effect_on r (Jump d) = jump (entered (at r d))
effect_on r Halt = halting

-- The effect that the code gave, or its fault.
abbrev pub given_on : List Word → Result Effect Fault → Ruled
given_on r (Ok e) = effect_on r e
given_on r (Err f) = faulting f

-- What the code gave is the effect of the rules, whatever the registers hold.
abbrev pub Does : Result Effect Fault → Ruled → Type 0
Does e rule = (r : List Word) → given_on r e ≡ rule

-- Both words are these integers, or a rule that needs two integers faults so.
abbrev pub AreIntegers : Word → Word → Result (ℤ × ℤ) Fault → Type 0
AreIntegers a b (Ok p) = (a ≡ integer p.0) × (b ≡ integer p.1)
AreIntegers a b (Err f) = (rest : ℤ → ℤ → Ruled) → with_integers a b rest ≡ faulting f
