-- What the calls on a memory answer, by its row: the words from address 0.
use Rattle.std.specs.Prelude.{ℕ, cond, ◌&&◌, List, length, Ok, Err, Result, ◌==◌, nat_lt}
use Rattle.words.specs.declared.refusal.Refusal.{Refusal}
use Rattle.words.specs.declared.word.Word.{Word as Held}
use Rattle.words.specs.Word.{Word, at}
use Rattle.words.specs.Refusals.{refusal_number}
use Rattle.words.specs.Meaning.{meaning}

-- What a call gives, or the number of a refusal.
pub data Answer (X : Type 0) : Type 0 where
  given : X → Answer X
  refused : ℕ → Answer X

-- What the code answered to a load.
abbrev pub load_answer : Result Held Refusal → Answer Word
load_answer (Ok w) = given (meaning w)
load_answer (Err e) = refused (refusal_number e)

-- A load gives the word at the address; at or beyond the row's length it is refused (1).
abbrev pub loaded : List Word → ℕ → Answer Word
loaded row a = cond (nat_lt a (length row)) (given (at row a)) (refused 1)

-- What the code answered to a store.
abbrev pub store_answer : Result (Unit {0}) Refusal → Answer (Unit {0})
store_answer (Ok u) = given u
store_answer (Err e) = refused (refusal_number e)

-- A store is done; at or beyond the row's length it is refused (1).
abbrev pub stored_answer : List Word → ℕ → Answer (Unit {0})
stored_answer row a = cond (nat_lt a (length row)) (given tt) (refused 1)

-- A load after a store: the new word at the address where it was stored, and elsewhere what was there before.
abbrev pub loaded_after : List Word → ℕ → Word → ℕ → Answer Word
loaded_after row a w b = cond (b == a && nat_lt a (length row)) (given w) (loaded row b)
