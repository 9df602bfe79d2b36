-- Looking a word up in a table of names.
use Rattle.std.proofs.Common.{◌≡◌, ℕ, ◌+◌, cond, List, [], ◌∷◌, map, Some, Option, Bor, refl, ap, ◌∙◌}
use Rattle.std.specs.Str.{bytes_eq}
use Rattle.std.specs.List.{position, position_from}
use Rattle.std.proofs.lemmas.Iterator.Adapters.{position_from-zero}
use Rattle.notation.specs.Names.{place_of, place_from}

place_from_position : (i : ℕ) (table : List (Bor (List ℕ))) (word : List ℕ)
    → position_from (λ name. bytes_eq name.now word) i table ≡ place_from i (map (λ (name : Bor (List ℕ)). name.now) table) word
place_from_position i [] word = refl
place_from_position i (name ∷ names) word = ap (cond (bytes_eq name.now word) (Some i)) (place_from_position (i + 1) names word)

-- The first name of the table that is the word stands at the place that the definition has.
pub place_of_position : (table : List (Bor (List ℕ))) (names : List (List ℕ)) (word : List ℕ) (found : Option ℕ)
    → map (λ (name : Bor (List ℕ)). name.now) table ≡ names → found ≡ position (λ name. bytes_eq name.now word) table → found ≡ place_of names word
place_of_position table names word found t f =
    f ∙ position_from-zero (λ name. bytes_eq name.now word) table ∙ place_from_position 0 table word ∙ ap (λ all. place_of all word) t
