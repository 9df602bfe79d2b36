-- What a packed row is like, and what writing one group does to it.
use Rattle.std.proofs.Common.{◌≡◌, ℕ, ◌+◌, ◌-◌, ◌*◌, ◌<◌, ◌≤◌, ◌⊎◌, List, Result, Ok, Err, pos, [], ◌++◌, length, get_or, take, drop, set, Some, None, Option, sym, refl, ap, ◌∙◌, ⊎_elim, arith, length-drop, length-set, length-take, rules}
use borrow.Rule.Slice.PartMut.{put_mid}
use lib.Seq.{paste}
use Rattle.std.proofs.lemmas.List.{same_lists, places, get_or-set_same, get_or-set_other, get_or-take, get_or-drop, take_all, take_rest, take_at, length-take-le, drop_all, drop_at, drop-drop, append-nil, append_assoc}
use Rattle.std.proofs.lemmas.List.Edits.{length-paste, drop-paste}
use Rattle.std.proofs.lemmas.List.FromFn.{get_or-map-range_with_len}
use Rattle.std.proofs.lemmas.Bool.{cases_eq, cases_lt}
use Rattle.words.specs.Word.{Word}
use Rattle.groups.specs.Packing.{or_zero}
use Rattle.groups.specs.Groups.{group_at}
use Rattle.std.specs.Result.{result_unwrap_or}
use Rattle.words.specs.Meaning.{meaning}
use Rattle.words.specs.declared.refusal.Refusal.{Refusal}
use Rattle.words.specs.declared.word.Word.{Word as Held}
use Rattle.words.specs.declared.word.Word.TheVariants.{Int}
use Rattle.groups.specs.Answers.{unpacking, or_refused}
use Rattle.memory.specs.Packs.{packed_size, packed_row, packed_length, plain_group, word_group}

-- What unpacking answers, and what a group means.
pub means : (o : Option Word) (r : Result Held Refusal) → unpacking r ≡ or_refused o → meaning (result_unwrap_or r (Int (pos 0))) ≡ or_zero o
means (Some v) (Ok w) e = cc
means None (Ok w) e = let z : ◌≡◌ {A = ℕ} 0 1 = cc in absurd (omega arith)
means (Some v) (Err f) e = let z : ◌≡◌ {A = ℕ} 0 1 = cc in absurd (omega arith)
means None (Err f) e = refl

pub group_length : (w : Word) → length (word_group w) ≡ 8
unfolding word_group
group_length w = refl

pub packed_at : (bs : List ℕ) (a : ℕ) (d : Word) → a < length (packed_row bs) → get_or (packed_row bs) a d ≡ plain_group (group_at bs (8 * a))
unfolding packed_row
packed_at bs a d h =
    let s = packed_length bs in
    get_or-map-range_with_len (λ i. plain_group (group_at bs (8 * i))) 0 (packed_size bs) a a d (omega arith) (omega arith)

-- A write to the part from a place on, of which it changes the first eight bytes.
pub put_rest : (xs ys gs : List ℕ) (o : ℕ) → o + 8 ≤ length xs → length gs ≡ 8 →
    ys ≡ gs ++ drop 8 (take (length xs - o) (drop o xs)) → put_mid o (length xs - o) xs ys ≡ paste xs o gs 8
put_rest xs ys gs o h eight e =
    let none : drop (length xs - o) (drop o xs) ≡ [] = drop_all (length xs - o) (drop o xs) (omega (arith, length-drop o xs)) in
    let tail : drop 8 (take (length xs - o) (drop o xs)) ≡ drop (o + 8) xs = ap (drop 8) (take_rest xs o) ∙ drop-drop 8 o xs in
    ap (λ r. take o xs ++ (ys ++ r)) none
    ∙ ap (λ r. take o xs ++ r) (append-nil ys ∙ e ∙ ap (λ r. gs ++ r) tail)
    ∙ sym (append_assoc (take o xs) gs (drop (o + 8) xs))
    ∙ ap (λ r. (take o xs ++ r) ++ drop (o + 8) xs) (sym (take_all 8 gs (omega arith)))

module _ (bs gs : List ℕ) (o : ℕ) (eight : length gs ≡ 8) (fits : o + 8 ≤ length bs) where
  pub same_length : length (paste bs o gs 8) ≡ length bs
  same_length = length-paste bs o gs 8 fits (omega arith)

  pub group_same : group_at (paste bs o gs 8) o ≡ gs
  group_same =
      ap (λ l. take 8 (drop o l)) (append_assoc (take o bs) (take 8 gs) (drop (o + 8) bs))
      ∙ ap (take 8) (drop_at (take o bs) (take 8 gs ++ drop (o + 8) bs) o (length-take-le o bs (omega arith)))
      ∙ take_at (take 8 gs) (drop (o + 8) bs) 8 (length-take-le 8 gs (omega arith))
      ∙ take_all 8 gs (omega arith)

  paste_below : (j : ℕ) (d : ℕ) → j < o → get_or (paste bs o gs 8) j d ≡ get_or bs j d
  paste_below j d h = search (rules, places)

  paste_above : (j : ℕ) (d : ℕ) → o + 8 ≤ j → get_or (paste bs o gs 8) j d ≡ get_or bs j d
  paste_above j d h = search (rules, places)

  -- The groups beside the one that was written are as they were.
  pub group_other : (p : ℕ) → (p + 8 ≤ o) ⊎ (o + 8 ≤ p) → group_at (paste bs o gs 8) p ≡ group_at bs p
  group_other p apart =
      same_lists (group_at (paste bs o gs 8) p) (group_at bs p)
      (simp (length-take, length-drop) (omega (arith, same_length)))
      (λ k d h.
      let l : k < 8 = omega (arith, length-take 8 (drop p (paste bs o gs 8))) in
      let same : get_or (paste bs o gs 8) (p + k) d ≡ get_or bs (p + k) d
      = ⊎_elim (λ u. paste_below (p + k) d (omega arith)) (λ u. paste_above (p + k) d (omega arith)) apart in
      get_or-take 8 (drop p (paste bs o gs 8)) k d l
      ∙ get_or-drop p (paste bs o gs 8) k d
      ∙ same
      ∙ sym (get_or-drop p bs k d)
      ∙ sym (get_or-take 8 (drop p bs) k d l))

  pub drop_above : (n : ℕ) → o + 8 ≤ n → drop n (paste bs o gs 8) ≡ drop n bs
  drop_above n h =
      let e : o + 8 + (n - (o + 8)) ≡ n = omega arith in
      ap (λ m. drop m (paste bs o gs 8)) (sym e)
      ∙ sym (drop-drop (n - (o + 8)) (o + 8) (paste bs o gs 8))
      ∙ ap (drop (n - (o + 8))) (drop-paste bs o gs 8 (omega arith) (omega arith))
      ∙ drop-drop (n - (o + 8)) (o + 8) bs
      ∙ ap (λ m. drop m bs) e

pub packed_set : (bs gs : List ℕ) (a : ℕ) → length gs ≡ 8 → a < length (packed_row bs) → (w : Word) → plain_group gs ≡ w →
    packed_row (paste bs (8 * a) gs 8) ≡ set (packed_row bs) a w
packed_set bs gs a eight h w e =
    let size = packed_length bs in
    let fits : 8 * a + 8 ≤ length bs = omega arith in
    let after = paste bs (8 * a) gs 8 in
    let same = same_length bs gs (8 * a) eight fits in
    let size' = packed_length after in
    let long = length-set (packed_row bs) a w in
    same_lists (packed_row after) (set (packed_row bs) a w) (omega arith)
    (λ k d l.
    packed_at after k d l
    ∙ ⊎_elim
    (λ u.
    ap (λ i. plain_group (group_at after (8 * i))) u
    ∙ ap plain_group (group_same bs gs (8 * a) eight fits)
    ∙ e
    ∙ sym (get_or-set_same (packed_row bs) a w d h)
    ∙ ap (λ i. get_or (set (packed_row bs) a w) i d) (sym u))
    (λ u.
    let other : (8 * k + 8 ≤ 8 * a) ⊎ (8 * a + 8 ≤ 8 * k) = search (rules, cases_lt k a) in
    ap plain_group (group_other bs gs (8 * a) eight fits (8 * k) other)
    ∙ sym (packed_at bs k d (omega arith))
    ∙ sym (get_or-set_other (packed_row bs) a k w d u))
    (cases_eq k a))
