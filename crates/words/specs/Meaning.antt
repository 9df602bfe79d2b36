-- The word that a word of the code stands for.
use Rattle.words.specs.declared.capability.Capability.{Capability}
use Rattle.words.specs.declared.word.Word.{Word as Held}
use Rattle.words.specs.declared.word.Word.TheVariants.{Int, Cap as Pointer}
use Rattle.words.specs.Word.{Cap, Word, integer, capability}

abbrev pub cap_of : Capability → Cap
cap_of c = record { permission = c.permission; locality = c.locality; base = c.base; end = c.end; cursor = c.cursor }

abbrev pub meaning : Held → Word
meaning (Int z) = integer z
meaning (Pointer c) = capability (cap_of c)
