-- Whether a word is an integer or a capability, and which.
use Rattle.std.specs.Prelude.{◌≡◌, ℤ, Some, None, Option}
use Rattle.words.specs.declared.capability.Capability.{Capability}
use Rattle.words.specs.Word.{Cap, Word, integer, capability}
use Rattle.words.specs.Meaning.{cap_of}

-- The word is this integer, or it is some capability.
abbrev pub HoldsInteger : Word → Option ℤ → Type 0
HoldsInteger word (Some z) = word ≡ integer z
HoldsInteger word None = (c : Cap) × (word ≡ capability c)

-- The word is this capability, or it is some integer.
abbrev pub HoldsCapability : Word → Option Capability → Type 0
HoldsCapability word (Some c) = word ≡ capability (cap_of c)
HoldsCapability word None = (z : ℤ) × (word ≡ integer z)
