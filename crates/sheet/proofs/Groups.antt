-- Reading a sheet group by group.
use Rattle.std.proofs.Common.{◌≡◌, ℕ, ◌+◌, ◌-◌, ◌<◌, ◌≢◌, List, length, take, drop, set, Some, None, Ok, Err, Option, Result, MatchResult, IsErrAnd, sym, refl, ap, ◌∙◌, ⊎_elim, arith, length-set}
use Rattle.std.proofs.lemmas.List.{get_or-set_same, get_or-set_other}
use Rattle.std.proofs.lemmas.Bool.{cases_eq}
use Rattle.words.specs.declared.refusal.Refusal.{Refusal}
use Rattle.words.specs.declared.word.Word.{Word as Held}
use Rattle.words.specs.Word.{Word, at, zero_word}
use Rattle.words.specs.Meaning.{meaning}
use Rattle.words.specs.Refusals.{refusal_number}
use Rattle.groups.specs.declared.hand.Hand.{Hand}
use Rattle.groups.specs.Groups.{group_at}
use Rattle.groups.specs.Answers.{word, refused, or_refused, unpacking, unpacking_of}
use Rattle.groups.specs.Hands.{hand_words, Set}
use Rattle.sheet.specs.declared.malformed.Malformed.{Malformed}
use Rattle.sheet.specs.Sheets.{group_count, sheet_word, offset, Packs, FirstMalformed, ReadsGroup}

-- What unpacking answered, as the group's word.
given : (o : Option Word) (w : Word) → word w ≡ or_refused o → o ≡ Some w
given (Some v) w e = cc
given None w e = absurd (cc)

none_given : (o : Option Word) (n : ℕ) → refused n ≡ or_refused o → (o ≡ None) × (n ≡ 5)
none_given (Some v) n e = absurd (cc)
none_given None n e = (refl, cc)

-- The part from the offset on that the code cuts out is the group.
abbrev part : List ℕ → ℕ → List ℕ
part bytes i = take (offset i + 8 - offset i) (drop (offset i) bytes)

cut : (bytes : List ℕ) (i : ℕ) → part bytes i ≡ group_at bytes (offset i)
cut bytes i = grind arith

-- A group's answer, with the offset put to the refusal.
pub reads : (bytes : List ℕ) (i : ℕ) (u : Result Held Refusal) (r : Result Held Malformed) (P : Refusal → Malformed → Type 0) → unpacking u ≡ unpacking_of (part bytes i) →
    MatchResult u (λ w. r ≡ Ok w) (λ e. IsErrAnd r (P e)) → ((e : Refusal) (m : Malformed) → P e m → m ≡ record { refusal = e; offset = offset i }) → ReadsGroup bytes i r
reads bytes i (Ok w) r P e m made = rw m (given (sheet_word bytes i) (meaning w) (e ∙ ap (λ g. unpacking_of g) (cut bytes i)))
reads bytes i (Err x) (Err m) P e p made =
    let none = none_given (sheet_word bytes i) (refusal_number x) (e ∙ ap (λ g. unpacking_of g) (cut bytes i)) in
    rw (made x m p) (none.0, refl, none.1)
reads bytes i (Err x) (Ok w) P e m made = absurd m

-- The first group that packs no word is where the sheet is malformed.
pub first : (bytes : List ℕ) (i : ℕ) (m : Malformed) → i < group_count bytes → ((k : ℕ) → k < i → Packs bytes k) → ReadsGroup bytes i (Err m) → FirstMalformed bytes m
first bytes i m there earlier none =
    record { group = i; there = there; offset_is = none.1; refusal_is = none.2; packs_none = none.0; earlier = earlier }

-- The hand has the words of the groups so far.
abbrev pub SoFar : List ℕ → Hand → ℕ → Type 0
SoFar bytes hand n = ((k : ℕ) → k < n → sheet_word bytes k ≡ Some (at (hand_words hand) k)) × (length (hand_words hand) ≡ 16)

pub one_more : (bytes : List ℕ) (h h' : Hand) (i : ℕ) (w : Word) (r : Result (Unit {0}) Refusal) → i < 16 → Set h i w r h' → sheet_word bytes i ≡ Some w →
    SoFar bytes h i → SoFar bytes h' (i + 1)
one_more bytes h h' i w (Ok u) l s e inv =
    let row = hand_words h in
    let new : hand_words h' ≡ set row i w = s.2 in (
      (λ k below.
          ⊎_elim
          (λ (q : k ≡ i).
          let here : at (set row i w) i ≡ w = get_or-set_same row i w zero_word (omega (arith, inv.1)) in
          ap (sheet_word bytes) q ∙ e ∙ ap Some (sym here ∙ ap (λ (r : List Word). at r i) (sym new) ∙ ap (at (hand_words h')) (sym q)))
          (λ (q : k ≢ i).
          let kept : at (set row i w) k ≡ at row k = get_or-set_other row i k w zero_word q in
          inv.0 k (omega arith) ∙ ap Some (sym kept ∙ ap (λ (r : List Word). at r k) (sym new)))
          (cases_eq k i)),
      ap length new ∙ length-set row i w ∙ inv.1,
    )
one_more bytes h h' i w (Err x) l s e inv = absurd (omega (arith, s.0))
