-- What a joined row is like, in its first part and in its second.
use Rattle.std.proofs.Common.{◌≡◌, ℕ, zero, suc, ◌+◌, ◌-◌, ◌<◌, ◌≤◌, min, ltb, List, [], ◌∷◌, ◌++◌, map, length, take, drop, set, sym, refl, ap, ◌∙◌, arith, length-append, length-set, length-take}
use lib.Seq.{take-set-lt}
use Rattle.std.proofs.lemmas.List.{get_or-take, get_or_append_left, get_or-append_right, set-append_left, set-append_right, drop-set-lt, take-take, take_at, drop_at, append_assoc}
use Rattle.std.proofs.lemmas.Bool.Decides.{nat_tests}
use Rattle.words.specs.Word.{Word, at, zero_word}
use Rattle.groups.specs.Packing.{packed}
use Rattle.memory.specs.Row.{Answer, loaded, stored_answer}
use Rattle.memory.specs.Joins.{joined_row, joined_beyond, second_after, ToldApart}

pub joined_length : (xs ys : List Word) → length (joined_row xs ys) ≡ min 65536 (length xs + length ys)
unfolding joined_row
joined_length xs ys = simp (length-take, length-append)

-- Two rows answer alike where both or neither have the address, and the words there agree.
same_load : (r s : List Word) (a b : ℕ) → ltb a (length r) ≡ ltb b (length s) → at r a ≡ at s b → loaded r a ≡ loaded s b
same_load r s a b e f = rw (e, f) refl

same_store : (r s : List Word) (a b : ℕ) → ltb a (length r) ≡ ltb b (length s) → stored_answer r a ≡ stored_answer s b
same_store r s a b e = rw e refl

module _ (xs ys : List Word) (a : ℕ) (cut : a < 65536) where
  -- An address in the first part, where the first part answers r, and a store leaves it at xs'.
  module _ (h : a < length xs) where
    test_first : ltb a (length xs) ≡ ltb a (length (joined_row xs ys))
    test_first = let s = joined_length xs ys in grind (arith, nat_tests)

    pub load_first : (r : Answer Word) → r ≡ loaded xs a → r ≡ loaded (joined_row xs ys) a
    unfolding joined_row
    load_first r e =
        e
        ∙ same_load xs (joined_row xs ys) a a test_first
        (sym (get_or-take 65536 (xs ++ ys) a zero_word cut ∙ get_or_append_left xs ys zero_word a h))

    pub store_first : (r : Answer (Unit {0})) → r ≡ stored_answer xs a → r ≡ stored_answer (joined_row xs ys) a
    store_first r e = e ∙ same_store xs (joined_row xs ys) a a test_first

    module _ (w : Word) (xs' : List Word) (e : xs' ≡ set xs a w) where
      pub row_first : joined_row xs' ys ≡ set (joined_row xs ys) a w
      unfolding joined_row
      row_first = ap (λ l. take 65536 (l ++ ys)) e ∙ ap (take 65536) (sym (set-append_left xs ys a w h)) ∙ take-set-lt 65536 (xs ++ ys) a w cut

      pub beyond_first : (us vs us' : List ℕ) → us' ≡ us → joined_beyond xs' ys us' vs ≡ joined_beyond xs ys us vs
      unfolding joined_beyond
      beyond_first us vs us' u =
          let long : length xs' ≡ length xs = ap length e ∙ length-set xs a w in
          let kept : drop 65536 (xs' ++ ys) ≡ drop 65536 (xs ++ ys)
          = ap (λ l. drop 65536 (l ++ ys)) e ∙ ap (drop 65536) (sym (set-append_left xs ys a w h)) ∙ drop-set-lt 65536 (xs ++ ys) a w cut in
          λ i. long i ∷ length (u i) ∷ length vs ∷ (u i ++ (vs ++ map packed (kept i)))

    pub second_kept : (w : Word) → ys ≡ second_after xs ys a w
    second_kept w = grind (arith, nat_tests)

  -- An address behind the first part, of n cells, where the second answers r, and a store leaves it at ys'.
  module _ (n : ℕ) (seam : n ≡ length xs) (h : n ≤ a) where
    test_second : ltb (a - n) (length ys) ≡ ltb a (length (joined_row xs ys))
    test_second = let s = joined_length xs ys in grind (arith, nat_tests)

    pub load_second : (r : Answer Word) → r ≡ loaded ys (a - n) → r ≡ loaded (joined_row xs ys) a
    unfolding joined_row
    load_second r e =
        e
        ∙ same_load ys (joined_row xs ys) (a - n) a test_second
        (sym (get_or-take 65536 (xs ++ ys) a zero_word cut ∙ get_or-append_right xs ys n a zero_word (sym seam) h))

    pub store_second : (r : Answer (Unit {0})) → r ≡ stored_answer ys (a - n) → r ≡ stored_answer (joined_row xs ys) a
    store_second r e = e ∙ same_store ys (joined_row xs ys) (a - n) a test_second

    module _ (w : Word) (ys' : List Word) (e : ys' ≡ set ys (a - n) w) where
      pub row_second : joined_row xs ys' ≡ set (joined_row xs ys) a w
      unfolding joined_row
      row_second =
          ap (λ l. take 65536 (xs ++ l)) e ∙ ap (take 65536) (sym (set-append_right xs ys n a w (sym seam) h)) ∙ take-set-lt 65536 (xs ++ ys) a w cut

      pub beyond_second : (us vs vs' : List ℕ) → vs' ≡ vs → joined_beyond xs ys' us vs' ≡ joined_beyond xs ys us vs
      unfolding joined_beyond
      beyond_second us vs vs' v =
          let kept : drop 65536 (xs ++ ys') ≡ drop 65536 (xs ++ ys)
          = ap (λ l. drop 65536 (xs ++ l)) e ∙ ap (drop 65536) (sym (set-append_right xs ys n a w (sym seam) h)) ∙ drop-set-lt 65536 (xs ++ ys) a w cut in
          λ i. length xs ∷ length us ∷ length (v i) ∷ (us ++ (v i ++ map packed (kept i)))

      pub second_set : ys' ≡ second_after xs ys a w
      second_set =
          let own : set ys (a - length xs) w ≡ second_after xs ys a w = grind (arith, nat_tests) in
          e ∙ ap (λ m. set ys (a - m) w) seam ∙ own

pub second_cut : (xs ys : List Word) (a : ℕ) (w : Word) → 65536 ≤ a → ys ≡ second_after xs ys a w
second_cut xs ys a w h = grind (arith, nat_tests)

pub told_apart : (xs ys : List Word) (us vs : List ℕ) → length xs ≤ 65536 → ToldApart xs ys us vs
unfolding joined_row joined_beyond
told_apart xs ys us vs few xs' ys' us' vs' e =
    let n : length xs' ≡ length xs = cc in
    let m : length us' ≡ length us = cc in
    let k : length vs' ≡ length vs = cc in
    let cut = map packed (drop 65536 (xs ++ ys)) in
    let cut' = map packed (drop 65536 (xs' ++ ys')) in
    let all : us' ++ (vs' ++ cut') ≡ us ++ (vs ++ cut) = cc in
    let rest : vs' ++ cut' ≡ vs ++ cut
    = sym (drop_at us' (vs' ++ cut') (length us) m) ∙ ap (drop (length us)) all ∙ drop_at us (vs ++ cut) (length us) refl in (
      sym (take-take (length xs') 65536 (xs ++ ys) (omega arith) ∙ take_at xs ys (length xs') (sym n)),
      sym (take_at us (vs ++ cut) (length us) refl) ∙ ap (take (length us)) (sym all) ∙ take_at us' (vs' ++ cut') (length us) m,
      sym (take_at vs cut (length vs) refl) ∙ ap (take (length vs)) (sym rest) ∙ take_at vs' cut' (length vs) k,
    )

-- A list that is cut before another goes behind it or in front of it, and cut again, is cut once.
cut_front : (n : ℕ) (xs ys : List Word) → take n (take n xs ++ ys) ≡ take n (xs ++ ys)
cut_front zero xs ys = refl
cut_front (suc n) [] ys = refl
cut_front (suc n) (x ∷ xs) ys = ap (λ l. x ∷ l) (cut_front n xs ys)

cut_behind : (n m : ℕ) (xs ys : List Word) → n ≤ m → take n (xs ++ take m ys) ≡ take n (xs ++ ys)
cut_behind zero m xs ys h = refl
cut_behind (suc n) m [] ys h = take-take (suc n) m ys h
cut_behind (suc n) m (x ∷ xs) ys h = ap (λ l. x ∷ l) (cut_behind n m xs ys (omega arith))

-- Joining is associative.
pub joined_associative : (xs ys zs : List Word) → joined_row xs (joined_row ys zs) ≡ joined_row (joined_row xs ys) zs
unfolding joined_row
joined_associative xs ys zs =
    cut_behind 65536 65536 xs (ys ++ zs) (omega arith) ∙ ap (take 65536) (sym (append_assoc xs ys zs)) ∙ sym (cut_front 65536 (xs ++ ys) zs)
