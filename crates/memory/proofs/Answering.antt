-- What a load and a store answer, once the address is compared with the size.
use Rattle.std.proofs.Common.{◌≡◌, ℕ, ◌<◌, ◌≤◌, cond, ltb, List, length, arith}
use Rattle.std.proofs.lemmas.Bool.Decides.{nat_tests}
use Rattle.words.specs.Word.{Word, at}
use Rattle.memory.specs.Row.{given, refused, loaded, stored_answer}

module _ (row : List Word) (a : ℕ) where
  pub load_refused : length row ≤ a → refused 1 ≡ loaded row a
  load_refused h = grind (arith, nat_tests)

  pub load_given : (w : Word) → a < length row → w ≡ at row a → given w ≡ loaded row a
  load_given w h e = grind (arith, nat_tests)

  pub store_refused : length row ≤ a → refused 1 ≡ stored_answer row a
  store_refused h = grind (arith, nat_tests)

  pub store_given : a < length row → given tt ≡ stored_answer row a
  store_given h = grind (arith, nat_tests)

-- The first of two values below the bound, the second from it on.
pub below : {X : Type 0} (a n : ℕ) (x y : X) → a < n → x ≡ cond (ltb a n) x y
below a n x y h = grind (arith, nat_tests)

pub from_on : {X : Type 0} (a n : ℕ) (x y : X) → n ≤ a → y ≡ cond (ltb a n) x y
from_on a n x y h = grind (arith, nat_tests)
