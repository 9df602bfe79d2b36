-- What packing and unpacking answer: each word has one group, and nothing but the groups of words unpacks.
use Rattle.std.specs.Prelude.{◌≡◌, ℕ, ◌≢◌, List, Some, None, Ok, Err, Option, Result}
use Rattle.words.specs.declared.capability.Capability.{Capability}
use Rattle.words.specs.declared.refusal.Refusal.{Refusal}
use Rattle.words.specs.declared.word.Word.{Word as Held}
use Rattle.words.specs.Word.{Cap, Word}
use Rattle.words.specs.Refusals.{refusal_number}
use Rattle.words.specs.Meaning.{cap_of, meaning}
use Rattle.groups.specs.Packing.{Exists, packed}
use Rattle.groups.specs.Groups.{group, group_word}

abbrev pub capability_given : Option Capability → Option Cap
capability_given (Some c) = Some (cap_of c)
capability_given None = None

abbrev pub word_given : Option Held → Option Word
word_given (Some w) = Some (meaning w)
word_given None = None

-- The word packs into the number, or no word does.
abbrev pub Decodes : ℕ → Option Held → Type 0
Decodes n (Some w) = packed (meaning w) ≡ n
Decodes n None = (w : Word) → Exists w → packed w ≢ n

-- A word, or the number of a refusal.
pub data Unpacking : Type 0 where
  word : Word → Unpacking
  refused : ℕ → Unpacking

abbrev pub unpacking : Result Held Refusal → Unpacking
unpacking (Ok w) = word (meaning w)
unpacking (Err e) = refused (refusal_number e)

abbrev pub or_refused : Option Word → Unpacking
or_refused (Some w) = word w
or_refused None = refused 5

abbrev pub unpacking_of : List ℕ → Unpacking
unpacking_of bytes = or_refused (group_word bytes)

-- The bytes are the word's group, or they are the group of no word and are refused (5).
abbrev pub Unpacks : List ℕ → Result Held Refusal → Type 0
Unpacks bytes (Ok w) = group (packed (meaning w)) ≡ bytes
Unpacks bytes (Err e) = (refusal_number e ≡ 5) × ((w : Word) → Exists w → group (packed w) ≢ bytes)
