-- Two surveys of one hand, over cells that are the same outside a set that the first one does not reach, come to the same.
use Rattle.std.proofs.Common.{◌≡◌, ℕ, ◌<◌, List, length, get_or, take, sym, refl, ◌∙◌, subst, arith, ext_get_or}
use native.Mathlib.Decide.{dec_lt}
use Rattle.words.specs.Word.{Cap, Word}
use Rattle.model.specs.Survey.{Held, in_hand, in_cell, Reached, Writable, Mark, writable, reached, apart, count_from, Charted}
use Rattle.model.proofs.Rows.{exists_at}
use Rattle.model.proofs.Lockstep.{Agree}

module _ (S : ℕ → Type 0) (hand x y : List Word) (size : length x ≡ length y) (agree : Agree S x y) (unreached : (a : ℕ) → Reached hand x a → ¬ S a) where
  held_on : {c : Cap} → Held hand x c → Held hand y c
  held_on (in_hand i e) = in_hand i e
  held_on (in_cell {via = via} a h not_O within e) =
      in_cell a (held_on h) not_O within (sym (agree a (unreached a (record { via = via; held = h; not_O = not_O; covered = within; exists = exists_at x a e }))) ∙ e)

  held_back : {c : Cap} → Held hand y c → Held hand x c
  held_back (in_hand i e) = in_hand i e
  held_back (in_cell {via = via} a h not_O within e) =
      let h' : Held hand x via = held_back h in
      in_cell a h' not_O within (agree a (unreached a (record { via = via; held = h'; not_O = not_O; covered = within; exists = subst (λ (n : ℕ). a < n) (sym size) (exists_at y a e) })) ∙ e)

  reached_on : {a : ℕ} → Reached hand x a → Reached hand y a
  reached_on {a} r = record { via = r.via; held = held_on r.held; not_O = r.not_O; covered = r.covered; exists = subst (λ (n : ℕ). a < n) size r.exists }

  reached_back : {a : ℕ} → Reached hand y a → Reached hand x a
  reached_back {a} r = record { via = r.via; held = held_back r.held; not_O = r.not_O; covered = r.covered; exists = subst (λ (n : ℕ). a < n) (sym size) r.exists }

  writable_on : {a : ℕ} → Writable hand x a → Writable hand y a
  writable_on {a} r = record { via = r.via; held = held_on r.held; can_write = r.can_write; covered = r.covered; exists = subst (λ (n : ℕ). a < n) size r.exists }

  writable_back : {a : ℕ} → Writable hand y a → Writable hand x a
  writable_back {a} r = record { via = r.via; held = held_back r.held; can_write = r.can_write; covered = r.covered; exists = subst (λ (n : ℕ). a < n) (sym size) r.exists }

  same_mark : {a m n : ℕ} → Mark hand x a m → Mark hand y a n → m ≡ n
  same_mark (writable w) (writable w') = refl
  same_mark (writable w) (reached no_w r) = absurd (no_w (writable_on w))
  same_mark (writable w) (apart no_w no_r) = absurd (no_w (writable_on w))
  same_mark (reached no_w r) (writable w) = absurd (no_w (writable_back w))
  same_mark (reached no_w r) (reached no_w' r') = refl
  same_mark (reached no_w r) (apart no_w' no_r) = absurd (no_r (reached_on r))
  same_mark (apart no_w no_r) (writable w) = absurd (no_w (writable_back w))
  same_mark (apart no_w no_r) (reached no_w' r) = absurd (no_r (reached_back r))
  same_mark (apart no_w no_r) (apart no_w' no_r') = refl

  module _ (chart p q : List ℕ) (m m_2 n n_2 : ℕ) (one : Charted hand x chart p m m_2) (two : Charted hand y chart q n n_2) where
    same_byte : (a : ℕ) → get_or p a 0 ≡ get_or q a 0
    same_byte a = elim (dec_lt a (length x)) [
      | yes inside ↦ same_mark (one.marks a inside) (two.marks a (subst (λ (k : ℕ). a < k) size inside))
      | no outside ↦ one.rest a (omega arith) ∙ sym (two.rest a (omega arith))
    ]

    pub same_chart : p ≡ q
    same_chart = ext_get_or 0 p q (one.as_long ∙ sym two.as_long) (λ a h. same_byte a)

    counted : (k : ℕ) → count_from k (take (length x) p) ≡ count_from k (take (length y) q)
    counted k = λ i. count_from k (take (size i) (same_chart i))

    pub same_count : m ≡ n
    same_count = one.count ∙ counted 1 ∙ sym two.count

    pub same_count_2 : m_2 ≡ n_2
    same_count_2 = one.count_2 ∙ counted 2 ∙ sym two.count_2
