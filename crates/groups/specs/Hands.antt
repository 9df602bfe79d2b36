-- A hand: sixteen plain numbers, and the words that they mean.
use Rattle.std.specs.Prelude.{◌≡◌, ℕ, ◌<◌, ◌≤◌, cond, List, map, Ok, Err, Result, nat_lt, slice_index, slice_set}
use Rattle.words.specs.declared.refusal.Refusal.{Refusal}
use Rattle.words.specs.declared.word.Word.{Word as Held}
use Rattle.words.specs.Word.{Word}
use Rattle.words.specs.Refusals.{refusal_number}
use Rattle.words.specs.Meaning.{meaning}
use Rattle.groups.specs.declared.hand.Hand.{Hand}
use Rattle.groups.specs.Packing.{packed, plain}
use Rattle.groups.specs.Answers.{Unpacking, word, refused}

abbrev pub hand_words : Hand → List Word
hand_words h = map plain h.numbers

-- Setting a register's word: the packed word stands there and every other number stays, and the hand then means that word there and the same elsewhere.
-- A register above 15 is refused (2), and nothing changes.
abbrev pub Set : Hand → ℕ → Word → Result (Unit {0}) Refusal → Hand → Type 0
Set h n w (Ok u) h' = (n < 16) × (h'.numbers ≡ slice_set h.numbers n (packed w)) × (hand_words h' ≡ slice_set (hand_words h) n w)
Set h n w (Err e) h' = (16 ≤ n) × (refusal_number e ≡ 2) × (h' ≡ h)

-- Reading a register's word, refused (2) above 15.
abbrev pub given_word : Result Held Refusal → Unpacking
given_word (Ok w) = word (meaning w)
given_word (Err e) = refused (refusal_number e)

abbrev pub word_in : Hand → ℕ → Unpacking
word_in h n = cond (nat_lt n 16) (word (plain (slice_index h.numbers n))) (refused 2)
