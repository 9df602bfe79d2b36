-- A word among words of the code, and the row that they mean.
use Rattle.std.proofs.Common.{◌≡◌, ℕ, ◌+◌, ◌<◌, ◌≤◌, List, [], ◌∷◌, ◌++◌, map, length, get_or, take, set, Ok, Err, Result, sym, ap, ◌∙◌, arith}
use lib.ListN.{length-map}
use Rattle.std.proofs.lemmas.List.{get_or-map, get_or-set_same, map-set, set-get_or, take_more, take_more_set, take_all}
use Rattle.words.specs.declared.word.Word.{Word as Held}
use Rattle.words.specs.Word.{Word, zero_word, at}
use Rattle.words.specs.Meaning.{meaning}
use Rattle.groups.specs.Packing.{plain}
use Rattle.model.specs.declared.fault.Fault.{Fault}
use Rattle.model.specs.Machine.{put}
use Rattle.model.specs.Effects.{shifting}
use Rattle.effects.specs.Shifts.{Shifts}
use Rattle.machine.specs.Files.{Shifted}

-- a register's cursor moves where the word of that register is changed in place
pub shifted_at : (words : List Held) (n : ℕ) (by : Word) (r : Result (Unit {0}) Fault) (w w' : Held) → n < length words → Shifts (meaning (get_or words n w)) by r (meaning w') → Shifted (map meaning words) n by r (map meaning (set words n w'))
shifted_at words n by (Ok u) w w' h s =
    let row = map meaning words in
    let was : meaning (get_or words n w) ≡ at row n = sym (get_or-map meaning words n w zero_word h) in
    let after : map meaning (set words n w') ≡ set row n (meaning w') = map-set meaning words n w' in
    let is : at (map meaning (set words n w')) n ≡ meaning w' = ap (λ (x : List Word). at x n) after ∙ get_or-set_same row n (meaning w') zero_word (omega (arith, length-map words meaning)) in
    (ap (λ (x : Word). shifting n x by) (sym was) ∙ s n ∙ ap (put n) (sym is), after ∙ ap (set row n) (sym is))
shifted_at words n by (Err f) w w' h s =
    let row = map meaning words in
    let was : meaning (get_or words n w) ≡ at row n = sym (get_or-map meaning words n w zero_word h) in
    (ap (λ (x : Word). shifting n x by) (sym was) ∙ s.0 n, map-set meaning words n w' ∙ ap (set row n) (s.1 ∙ was) ∙ set-get_or row n zero_word)

-- words that mean plain numbers, filled in one by one
pub filled_more : (words : List Held) (numbers : List ℕ) (i : ℕ) (w : Held) → i < length words → i < length numbers → meaning w ≡ plain (get_or numbers i 0) → take i (map meaning words) ≡ take i (map plain numbers) → take (i + 1) (map meaning (set words i w)) ≡ take (i + 1) (map plain numbers)
filled_more words numbers i w h k e filled =
    let row = map meaning words in
    let plains = map plain numbers in
    let added : meaning w ≡ at plains i = e ∙ sym (get_or-map plain numbers i 0 zero_word k) in
    ap (take (i + 1)) (map-set meaning words i w)
    ∙ take_more_set row i (meaning w) (omega (arith, length-map words meaning))
    ∙ (λ j. filled j ++ (added j ∷ []))
    ∙ sym (take_more plains i zero_word (omega (arith, length-map numbers plain)))

pub filled_all : (words : List Held) (numbers : List ℕ) (i : ℕ) → length words ≤ i → length numbers ≤ i → take i (map meaning words) ≡ take i (map plain numbers) → map meaning words ≡ map plain numbers
filled_all words numbers i h k filled =
    sym (take_all i (map meaning words) (omega (arith, length-map words meaning)))
    ∙ filled
    ∙ take_all i (map plain numbers) (omega (arith, length-map numbers plain))
