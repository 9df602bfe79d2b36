-- Rows of words, and words.
use Rattle.std.proofs.Common.{◌≡◌, ℕ, zero, suc, ◌<◌, Bool, true, false, ◌&&◌, T, ltb, leb, ◌⊎◌, List, [], ◌∷◌, length, set, ℤ, sym, refl, ap, subst, inl, inr, suc-le-suc, zero-le, ltb→lt, leb→le}
use Rattle.words.specs.Word.{Cap, Word, integer, capability, at, Covers, covers}
use Rattle.words.specs.Orders.{implies}

abbrev holds_capability : Word → Type 0
holds_capability (integer z) = ⊥
holds_capability (capability c) = Unit {0}

pub no_integer : {A : Type 0} {z : ℤ} {c : Cap} → integer z ≡ capability c → A
no_integer e = absurd (subst holds_capability (sym e) tt)

-- the capability in a word, and another one in an integer
abbrev cap_of : Cap → Word → Cap
cap_of d (integer z) = d
cap_of d (capability c) = c

pub same_capability : {c d : Cap} → capability c ≡ capability d → c ≡ d
same_capability {c} e = ap (cap_of c) e

-- a word read after one was set is that word, or was there before
pub at_set : (row : List Word) (i j : ℕ) (w v : Word) → at (set row i w) j ≡ v → (w ≡ v) ⊎ (at row j ≡ v)
at_set [] i j w v e = inr e
at_set (x ∷ xs) zero zero w v e = inl e
at_set (x ∷ xs) zero (suc j) w v e = inr e
at_set (x ∷ xs) (suc i) zero w v e = inr e
at_set (x ∷ xs) (suc i) (suc j) w v e = at_set xs i j w v e

-- what is there is where it was set, or as it was
pub at_other : (row : List Word) (i j : ℕ) (w : Word) → (j ≡ i) ⊎ (at (set row i w) j ≡ at row j)
at_other [] i j w = inr refl
at_other (x ∷ xs) zero zero w = inl refl
at_other (x ∷ xs) zero (suc j) w = inr refl
at_other (x ∷ xs) (suc i) zero w = inr refl
at_other (x ∷ xs) (suc i) (suc j) w = elim (at_other xs i j w) [ inl e ↦ inl (ap suc e) | inr e ↦ inr e ]

pub exists_at : (row : List Word) (i : ℕ) {c : Cap} → at row i ≡ capability c → i < length row
exists_at [] i e = no_integer e
exists_at (x ∷ xs) zero e = suc-le-suc zero-le
exists_at (x ∷ xs) (suc i) e = suc-le-suc (exists_at xs i e)

pub and_left : (a b : Bool) → T (a && b) → T a
and_left true b t = tt
and_left false b t = t

pub and_right : (a b : Bool) → T (a && b) → T b
and_right true b t = t
and_right false b t = absurd t

pub and_both : (a b : Bool) → T a → T b → T (a && b)
and_both true b t u = u
and_both false b t u = t

pub implied : (a b : Bool) → T (implies a b) → T a → T b
implied true b t u = t
implied false b t u = absurd u

pub covered : (c : Cap) (a : ℕ) → T (covers c a) → Covers c a
covered c a t = (leb→le c.base a (and_left (leb c.base a) (ltb a c.end) t), ltb→lt a c.end (and_right (leb c.base a) (ltb a c.end) t))
