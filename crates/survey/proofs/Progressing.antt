-- How a survey stands after one more word was followed.
use Rattle.std.proofs.Common.{◌≡◌, ℕ, ◌+◌, ◌<◌, ◌≤◌, ◌≢◌, ◌⊎◌, List, [], ◌∷◌, ◌++◌, length, get_or, sym, refl, ap, ◌∙◌, subst, inl, inr, arith}
use Rattle.std.proofs.lemmas.Bool.{cases_eq}
use Rattle.words.specs.declared.permission.Permission.{Permission}
use Rattle.words.specs.declared.permission.Permission.TheVariants.{O}
use Rattle.words.specs.Word.{Cap, Word, integer, capability, at}
use Rattle.model.specs.Survey.{Held, in_hand, in_cell}
use Rattle.model.proofs.Rows.{exists_at}
use Rattle.survey.specs.Levels.{permission_level, word_level, word_base, word_end}
use Rattle.survey.specs.Pending.{Listed}
use Rattle.survey.specs.Marking.{Raised}
use Rattle.survey.specs.Progress.{Sound, unmarked, marked, Painted, Progress, Complete}
use Rattle.survey.proofs.Listing.{kept, here, only}

-- no mark, and nothing followed yet
module _ (hand cells : List Word) (marks : List ℕ) (none : (a : ℕ) → get_or marks a 0 ≡ 0) where
  pub begun : length marks ≡ length cells → Progress hand cells 0 marks []
  begun long = record {
    as_long = long;
    sound = λ a. subst (λ (n : ℕ). Sound hand cells a n) (sym (none a)) unmarked;
    listed = λ a l. absurd (omega (arith, l.1));
    from_hand = λ i c h e. absurd (omega arith);
    from_cells = λ a c g e. absurd (omega (arith, none a));
  }

module _ {k from to : ℕ} {marks marks' p p' : List ℕ} (s : Raised k from to marks p marks' p') where
  still_painted : (c : Cap) → Painted marks c → Painted marks' c
  still_painted c q a within h = omega (arith, q a within (omega (arith, s.as_long)), s.grows a)

  module _ (hand cells : List Word) (n : ℕ)
      (long : length marks ≡ length cells)
      (sound : (a : ℕ) → Sound hand cells a (get_or marks a 0))
      (listed : (a : ℕ) → Listed p a → 1 ≤ get_or marks a 0)
      (from_hand : (i : ℕ) (c : Cap) → i < n → at hand i ≡ capability c → Painted marks' c)
      (from_cells : (a : ℕ) (c : Cap) → 1 ≤ get_or marks a 0 → at cells a ≡ capability c → Listed p a ⊎ Painted marks' c)
      (why : (a : ℕ) → from ≤ a → a < to → a < length cells → Sound hand cells a k) where
    stands : Progress hand cells n marks' p'
    stands = record {
      as_long = s.as_long ∙ long;
      sound = λ a. elim (s.only a) [
        | inl same ↦ subst (λ (m : ℕ). Sound hand cells a m) (sym same) (sound a)
        | inr there ↦ subst (λ (m : ℕ). Sound hand cells a m) (sym there.3) (why a there.0 there.1 (omega (arith, there.2)))
      ];
      listed = λ a l. elim (s.listed a l) [ inl l' ↦ omega (arith, listed a l', s.grows a) | inr g ↦ g ];
      from_hand = from_hand;
      from_cells = λ a c g e. elim (cases_eq (get_or marks a 0) 0) [
        | inl none ↦ inl (s.fresh a none g)
        | inr some ↦ elim (from_cells a c (omega arith) e) [ inl l ↦ inl (s.kept a l) | inr q ↦ inr q ]
      ];
    }

-- a word that was followed
abbrev Followed : Word → List ℕ → List ℕ → List ℕ → List ℕ → Type 0
Followed w marks p marks' p' = Raised (word_level w) (word_base w) (word_end w) marks p marks' p'

its_cells : (w : Word) (c : Cap) {marks marks' p p' : List ℕ} → w ≡ capability c → Followed w marks p marks' p' → Painted marks' c
its_cells w c {marks} {marks'} {p} {p'} e s =
    let t : Followed (capability c) marks p marks' p' = subst (λ (v : Word). Followed v marks p marks' p') e s in
    λ a within h. t.raised a within.0 within.1 (omega (arith, t.as_long))

its_right : (hand cells : List Word) (w : Word) → ((c : Cap) → w ≡ capability c → Held hand cells c) → (a : ℕ) → word_base w ≤ a → a < word_end w → a < length cells → Sound hand cells a (word_level w)
its_right hand cells (integer z) held a l g h = absurd (omega arith)
its_right hand cells (capability c) held a l g h = marked (held c refl) (l, g) h

-- one more word of the hand
pub hand_more : {hand cells : List Word} {n : ℕ} {marks marks' p p' : List ℕ} (w : Word) → at hand n ≡ w → Progress hand cells n marks p → Followed w marks p marks' p' → Progress hand cells (n + 1) marks' p'
hand_more {hand} {cells} {n} w is r s =
    stands s hand cells (n + 1) r.as_long r.sound r.listed
    (λ i c h e. elim (cases_eq i n) [
      | inl same ↦ its_cells w c (sym is ∙ ap (λ (j : ℕ). at hand j) (sym same) ∙ e) s
      | inr ne ↦ still_painted s c (r.from_hand i c (omega arith) e)
    ])
    (λ a c g e. elim (r.from_cells a c g e) [ inl l ↦ inl l | inr q ↦ inr (still_painted s c q) ])
    (its_right hand cells w (λ c e. in_hand n (is ∙ e)))

-- what a marked cell has is held
not_O : (q : Permission) → 1 ≤ permission_level q → q ≢ O
not_O q h e = omega (arith, ap permission_level e)

in_marked : {hand cells : List Word} {a : ℕ} (m : ℕ) {c : Cap} → Sound hand cells a m → 1 ≤ m → at cells a ≡ capability c → Held hand cells c
in_marked {hand} {cells} {a} m unmarked g e = absurd (omega arith)
in_marked {hand} {cells} {a} m (marked {c = via} h within inside) g e = in_cell a h (not_O via.permission g) within e

-- one more cell of the list
pub cell_more : {hand cells : List Word} {n : ℕ} {marks marks' q p' : List ℕ} (a : ℕ) (w : Word) → at cells a ≡ w → Progress hand cells n marks (q ++ a ∷ []) → Followed w marks q marks' p' → Progress hand cells n marks' p'
cell_more {hand} {cells} {n} {marks} {q = q} a w is r s =
    stands s hand cells n r.as_long r.sound
    (λ x l. r.listed x (kept q a x l))
    (λ i c h e. still_painted s c (r.from_hand i c h e))
    (λ x c g e. elim (r.from_cells x c g e) [
      | inl l ↦ elim (only q a x l) [
        | inl same ↦ inr (its_cells w c (sym is ∙ ap (λ (y : ℕ). at cells y) (sym same) ∙ e) s)
        | inr l' ↦ inl l'
      ]
      | inr done ↦ inr (still_painted s c done)
    ])
    (its_right hand cells w (λ c e. in_marked (get_or marks a 0) (r.sound a) (r.listed a (here q a)) (is ∙ e)))

-- nothing is left on the list
pub completed : {hand cells : List Word} {marks : List ℕ} → Progress hand cells (length hand) marks [] → Complete hand cells marks
completed {hand} {cells} {marks} r = record {
  as_long = r.as_long;
  sound = r.sound;
  from_hand = λ i c e. r.from_hand i c (exists_at hand i e) e;
  from_cells = λ a c g e. elim (r.from_cells a c g e) [ inl l ↦ absurd (omega (arith, l.1)) | inr q ↦ q ];
}
