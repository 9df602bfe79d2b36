-- Scans of a line and of a text, by the length of what they pass.
use Rattle.std.proofs.Common.{◌≡◌, ℕ, zero, suc, ◌+◌, ◌-◌, ◌<◌, ◌≤◌, Bool, true, false, cond, not, eqb, List, [], ◌∷◌, length, get_or, take, drop, Some, None, refl, ap, ◌∙◌, add-one, arith, length-drop}
use Rattle.std.proofs.lemmas.List.{take_all}
use Rattle.std.specs.List.{prefix_len, position_or_len, position, take_while}
use Rattle.std.proofs.lemmas.Bool.{not-true}
use Rattle.std.proofs.lemmas.Grind.{common_steps}
use Rattle.std.proofs.lemmas.List.Quantifiers.{position-Some}
use Rattle.std.proofs.lemmas.List.Recursion.{same_from_clauses}
use Rattle.std.proofs.lemmas.List.Sums.{take_while-cons, prefix_len_passes}
use Rattle.notation.specs.Scanning.{lines, onto, blank, in_word, skipped, front, behind}

-- What leaves out the elements at the front that pass a test, one by one.
dropped : (p : ℕ → Bool) (F : List ℕ → List ℕ) → F [] ≡ [] → ((x : ℕ) (xs : List ℕ) → F (x ∷ xs) ≡ cond (p x) (F xs) (x ∷ xs)) → (xs : List ℕ) → F xs ≡ drop (prefix_len p xs) xs
dropped p F none step [] = none
dropped p F none step (x ∷ xs) = step x xs ∙ by (p x) (dropped p F none step xs)
  where
    by : (b : Bool) → F xs ≡ drop (prefix_len p xs) xs → cond b (F xs) (x ∷ xs) ≡ drop (cond b (1 + prefix_len p xs) 0) (x ∷ xs)
    by true h = grind (arith, common_steps)
    by false h = refl

pub skipped_drop : (xs : List ℕ) → skipped xs ≡ drop (prefix_len blank xs) xs
skipped_drop = dropped blank skipped refl (λ _ _. refl)

pub behind_drop : (xs : List ℕ) → behind xs ≡ drop (prefix_len in_word xs) xs
behind_drop = dropped in_word behind refl (λ _ _. refl)

pub front_take : (xs : List ℕ) → front xs ≡ take (prefix_len in_word xs) xs
front_take = same_from_clauses front (take_while in_word) (λ x front. cond (in_word x) (x ∷ front) []) refl (λ _ _. refl) (take_while-cons in_word)

-- The first line: what stands before the first line feed.
line_cut : (text : List ℕ) (n : ℕ) → n < length text → ((i : ℕ) → i < n → eqb (get_or text i 0) 10 ≡ false) → eqb (get_or text n 0) 10 ≡ true → lines text ≡ take n text ∷ lines (drop (suc n) text)
line_cut [] n h before feed = absurd (omega arith)
line_cut (c ∷ cs) zero h before feed = simp feed
line_cut (c ∷ cs) (suc n) h before feed =
    let here : eqb c 10 ≡ false = before 0 (omega arith) in
    simp here (ap (onto c) (line_cut cs n (omega arith) (λ i lt. before (suc i) (omega arith)) feed))

line_last : (text : List ℕ) → 0 < length text → ((i : ℕ) → i < length text → eqb (get_or text i 0) 10 ≡ false) → lines text ≡ text ∷ []
line_last [] h before = absurd (omega arith)
line_last (c ∷ []) h before = let here : eqb c 10 ≡ false = before 0 (omega arith) in simp here
line_last (c ∷ (d ∷ ds)) h before =
    let here : eqb c 10 ≡ false = before 0 (omega arith) in
    simp here (ap (onto c) (line_last (d ∷ ds) (omega arith) (λ i lt. before (suc i) (omega arith))))

pub line_to_feed : (text : List ℕ) (n : ℕ) → position (λ c. eqb c 10) text ≡ Some n
    → let rest = take (length text - (n + 1)) (drop (n + 1) text) in (lines text ≡ take n text ∷ lines rest) × (length rest < length text)
line_to_feed text n h =
    let at = position-Some (λ c. eqb c 10) text n 0 h in
    let inside : n < length text = at.0 in
    let all : take (length text - (n + 1)) (drop (n + 1) text) ≡ drop (suc n) text
    = take_all _ _ (omega (arith, length-drop (n + 1) text)) ∙ ap (λ k. drop k text) (add-one n) in
    rw all (line_cut text n inside at.2 at.1, omega (arith, length-drop (suc n) text))

pub only_line : (text : List ℕ) → 0 < length text → position (λ c. eqb c 10) text ≡ None → lines text ≡ text ∷ []
only_line text h none =
    let far : length text ≤ position_or_len (λ c. eqb c 10) text = grind (arith, common_steps) in
    line_last text h (λ i lt. let l : i < position_or_len (λ c. eqb c 10) text = omega arith in not-true _ (prefix_len_passes (λ c. not (eqb c 10)) text i 0 l))

onto_few : (c : ℕ) (ls : List (List ℕ)) → length (onto c ls) ≤ 1 + length ls
onto_few c [] = omega arith
onto_few c (l ∷ ls) = omega arith

-- A text has no more lines than bytes.
pub lines_few : (text : List ℕ) → length (lines text) ≤ length text
lines_few [] = omega arith
lines_few (c ∷ cs) = grind (arith, common_steps, lines_few cs, onto_few c (lines cs))
