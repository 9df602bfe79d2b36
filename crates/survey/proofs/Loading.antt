-- The word that a load gives, and the integer 0 where it is refused: what is at the address in either case.
use Rattle.std.proofs.Common.{◌≡◌, ℕ, List, arith}
use Rattle.std.proofs.lemmas.Grind.{common_steps}
use Rattle.std.proofs.lemmas.Bool.Decides.{nat_tests}
use Rattle.words.specs.Word.{Word, zero_word, at}
use Rattle.memory.specs.Row.{Answer, given, refused, loaded}

abbrev pub or_zero : Answer Word → Word
or_zero (given w) = w
or_zero (refused n) = zero_word

pub at_loaded : (row : List Word) (a : ℕ) → at row a ≡ or_zero (loaded row a)
at_loaded row a = grind (arith, nat_tests, common_steps)
