-- The integers that are words, the quotient to the nearest integer, and the numbers of pairs.
use Rattle.std.proofs.Common.{◌≡◌, ℕ, zero, suc, ◌+◌, ◌-◌, ◌*◌, ◌/◌, ◌%◌, ◌^◌, ◌<◌, ◌≤◌, ◌≢◌, ℤ, pos, negsuc, ◌-ℤ◌, ◌*ℤ◌, neg_ℤ, nat_abs, Some, None, Option, sym, refl, ap, ◌∙◌, subst, mod-lt, mul_assoc, suc-mul, mul_comm, add-mul, one-mul, zero-mul, arith, le→leb, ltb→lt, lt→ltb, leb→le}
use native.Mathlib.Nat.{div-add-mod, div-eq_of_lt-le}
use native.Mathlib.Decide.{dec_lt}
use lib.IntN.{sub_ℕ}
use Rattle.std.proofs.lemmas.Bool.Decides.{nat_tests}
use Rattle.words.proofs.Codes.{permission_coded, locality_coded}
use Rattle.words.specs.declared.permission.Permission.{Permission}
use Rattle.words.specs.declared.permission.Permission.TheVariants.{O, RO, RW, RWL, RX, E, RWX, RWLX}
use Rattle.words.specs.declared.locality.Locality.{Locality}
use Rattle.words.specs.declared.locality.Locality.TheVariants.{Global, Local}
use Rattle.words.specs.Permissions.{permission_at}
use Rattle.words.specs.Localities.{locality_at}
use Rattle.model.specs.declared.fault.Fault.TheVariants.{UnknownPair}
use Rattle.model.specs.Machine.{Effect, faulting}
use Rattle.model.specs.Numbers.{rounded, quotient}
use Rattle.model.specs.Checks.{with_code, with_pair}
use Rattle.model.specs.Arithmetic.{WordsOf32Bits, Nearest, QuotientNearest, pair_number, PairsByNumber}

pub words_of_32_bits : WordsOf32Bits
words_of_32_bits (pos n) = (
  λ t. (record { le = tt }, record { le = le→leb n 2147483647 (let h : n < 2 ^ 31 = ltb→lt n (2 ^ 31) t in omega arith) }),
  λ h. lt→ltb n (2 ^ 31) (let k : n ≤ 2147483647 = leb→le n 2147483647 h.1.le in omega arith),
)
words_of_32_bits (negsuc n) = (
  λ t. (record { le = le→leb n 2147483647 (let h : n < 2 ^ 31 = ltb→lt n (2 ^ 31) t in omega arith) }, record { le = tt }),
  λ h. lt→ltb n (2 ^ 31) (let k : n ≤ 2147483647 = leb→le n 2147483647 h.0.le in omega arith),
)

-- ── The quotient, by magnitudes ──

-- the distance of two numbers
abbrev gap : ℕ → ℕ → ℕ
gap a t = (a - t) + (t - a)

-- the multiple q of b is nearest to a
record Near (a b q : ℕ) : Type 0 where
  near : 2 * gap a (q * b) ≤ b
  away : 2 * gap a (q * b) ≡ b → a < q * b

bounds : (a b : ℕ) → 0 < b → (2 * (rounded a b * b) ≤ 2 * a + b) × (2 * a + b < 2 * (rounded a b * b) + 2 * b)
bounds a b h =
    let q : ℕ = rounded a b in
    let e : 2 * b * q + (2 * a + b) % (2 * b) ≡ 2 * a + b = div-add-mod (2 * a + b) (2 * b) in
    let f : 2 * b * q ≡ 2 * (q * b) = mul_assoc 2 b q ∙ ap (λ (n : ℕ). 2 * n) (mul_comm b q) in
    let l : (2 * a + b) % (2 * b) < 2 * b = mod-lt (2 * a + b) (omega arith) in
    (omega (arith, e, f, l), omega (arith, e, f, l))

rounded_near : (a b : ℕ) → 0 < b → Near a b (rounded a b)
rounded_near a b h =
    let t : ℕ = rounded a b * b in
    let k = bounds a b h in
    record { near = omega (arith, k.0, k.1); away = λ e. omega (arith, k.0, k.1, e) }

near_rounded : (a b q : ℕ) → 0 < b → Near a b q → q ≡ rounded a b
near_rounded a b q h n =
    let f : q * (2 * b) ≡ 2 * (q * b) = sym (mul_assoc q 2 b) ∙ ap (λ (x : ℕ). x * b) (mul_comm q 2) ∙ mul_assoc 2 q b in
    let g : (q + 1) * (2 * b) ≡ q * (2 * b) + 2 * b = add-mul q 1 (2 * b) ∙ ap (λ (x : ℕ). q * (2 * b) + x) (one-mul (2 * b)) in
    let less : 2 * a < 2 * (q * b) + b = elim (dec_lt (2 * a) (2 * (q * b) + b)) [
      | yes k ↦ k
      | no k ↦ let tie : 2 * gap a (q * b) ≡ b = omega (arith, n.near) in omega (arith, n.away tie)
    ] in
    sym (div-eq_of_lt-le (2 * b) (omega (arith, f, n.near)) (omega (arith, f, g, less)))

-- ── Signs ──

abs_neg : (n : ℕ) → nat_abs (neg_ℤ (pos n)) ≡ n
abs_neg zero = refl
abs_neg (suc n) = refl

abs_sub : (a t : ℕ) → nat_abs (sub_ℕ a t) ≡ gap a t
abs_sub a t = grind (arith, nat_tests)

-- the distance of two integers of one sign, and of two signs
apart_pos : (a t : ℕ) → nat_abs (pos a -ℤ pos t) ≡ gap a t
apart_pos a zero = omega arith
apart_pos a (suc t) = abs_sub a (suc t)

apart_neg : (a t : ℕ) → nat_abs (negsuc a -ℤ neg_ℤ (pos t)) ≡ gap (suc a) t
apart_neg a zero = abs_sub 0 (suc a) ∙ omega arith
apart_neg a (suc t) = abs_sub (suc t) (suc a) ∙ omega arith

across_pos : (a t : ℕ) → nat_abs (pos a -ℤ neg_ℤ (pos t)) ≡ a + t
across_pos a zero = refl
across_pos a (suc t) = refl

across_neg : (a t : ℕ) → nat_abs (negsuc a -ℤ pos t) ≡ suc a + t
across_neg a zero = abs_sub 0 (suc a) ∙ omega arith
across_neg a (suc t) = omega arith

-- the products of a negative quotient
neg_pos : (q b : ℕ) → neg_ℤ (pos q) *ℤ pos b ≡ neg_ℤ (pos (q * b))
neg_pos zero b = rw (zero-mul b) refl
neg_pos (suc q) b = refl

neg_neg : (q b : ℕ) → neg_ℤ (pos q) *ℤ negsuc b ≡ pos (q * suc b)
neg_neg zero b = rw (zero-mul (suc b)) refl
neg_neg (suc q) b = refl

-- ── Nearest, by the magnitude k of the quotient ──

module _ (x y q : ℤ) (k : ℕ) where
  to_nearest : nat_abs (x -ℤ q *ℤ y) ≡ gap (nat_abs x) (k * nat_abs y) → nat_abs (q *ℤ y) ≡ k * nat_abs y → Near (nat_abs x) (nat_abs y) k → Nearest x y q
  to_nearest d p n = record {
    near = subst (λ (g : ℕ). 2 * g ≤ nat_abs y) (sym d) n.near;
    away = λ e. subst (λ (t : ℕ). nat_abs x < t) (sym p) (n.away (ap (λ (g : ℕ). 2 * g) (sym d) ∙ e));
  }

  from_nearest : nat_abs (x -ℤ q *ℤ y) ≡ gap (nat_abs x) (k * nat_abs y) → nat_abs (q *ℤ y) ≡ k * nat_abs y → Nearest x y q → Near (nat_abs x) (nat_abs y) k
  from_nearest d p n = record {
    near = subst (λ (g : ℕ). 2 * g ≤ nat_abs y) d n.near;
    away = λ e. subst (λ (t : ℕ). nat_abs x < t) p (n.away (ap (λ (g : ℕ). 2 * g) d ∙ e));
  }

  -- a quotient of the wrong sign is too far off
  far_off : {A : Type 0} → 0 < nat_abs y → nat_abs (x -ℤ q *ℤ y) ≡ nat_abs x + suc k * nat_abs y → Nearest x y q → A
  far_off h d n =
      let m : suc k * nat_abs y ≡ k * nat_abs y + nat_abs y = suc-mul k (nat_abs y) in
      absurd (omega (arith, n.near, d, m))

quotient_near : (x y : ℤ) → 0 < nat_abs y → Nearest x y (quotient x y)
quotient_near (pos a) (pos b) h =
    let r : ℕ = rounded a b in
    to_nearest (pos a) (pos b) (pos r) r (apart_pos a (r * b)) refl (rounded_near a b h)
quotient_near (pos a) (negsuc b) h =
    let r : ℕ = rounded a (suc b) in
    to_nearest (pos a) (negsuc b) (neg_ℤ (pos r)) r (ap (λ z. nat_abs (pos a -ℤ z)) (neg_neg r b) ∙ apart_pos a (r * suc b)) (ap nat_abs (neg_neg r b)) (rounded_near a (suc b) h)
quotient_near (negsuc a) (pos b) h =
    let r : ℕ = rounded (suc a) b in
    to_nearest (negsuc a) (pos b) (neg_ℤ (pos r)) r (ap (λ z. nat_abs (negsuc a -ℤ z)) (neg_pos r b) ∙ apart_neg a (r * b)) (ap nat_abs (neg_pos r b) ∙ abs_neg (r * b)) (rounded_near (suc a) b h)
quotient_near (negsuc a) (negsuc b) h =
    let r : ℕ = rounded (suc a) (suc b) in
    to_nearest (negsuc a) (negsuc b) (pos r) r (apart_neg a (r * suc b)) (abs_neg (r * suc b)) (rounded_near (suc a) (suc b) h)

-- the product with the quotient 0
none_times : (t : ℕ) (b : ℕ) → t + 0 * b ≡ gap t (0 * b)
none_times t b = rw (zero-mul b) (omega arith)

quotient_only : (x y q : ℤ) → 0 < nat_abs y → Nearest x y q → q ≡ quotient x y
quotient_only (pos a) (pos b) (pos k) h n = ap pos (near_rounded a b k h (from_nearest (pos a) (pos b) (pos k) k (apart_pos a (k * b)) refl n))
quotient_only (pos a) (pos b) (negsuc k) h n = far_off (pos a) (pos b) (negsuc k) k h (across_pos a (suc k * b)) n
quotient_only (pos a) (negsuc b) (pos zero) h n =
    ap (λ k. neg_ℤ (pos k)) (near_rounded a (suc b) 0 h (from_nearest (pos a) (negsuc b) (pos 0) 0 (across_pos a (0 * suc b) ∙ none_times a (suc b)) (abs_neg (0 * suc b)) n))
quotient_only (pos a) (negsuc b) (pos (suc k)) h n = far_off (pos a) (negsuc b) (pos (suc k)) k h (across_pos a (suc k * suc b)) n
quotient_only (pos a) (negsuc b) (negsuc k) h n =
    ap (λ k. neg_ℤ (pos k)) (near_rounded a (suc b) (suc k) h (from_nearest (pos a) (negsuc b) (negsuc k) (suc k) (apart_pos a (suc k * suc b)) refl n))
quotient_only (negsuc a) (pos b) (pos zero) h n =
    ap (λ k. neg_ℤ (pos k)) (near_rounded (suc a) b 0 h (from_nearest (negsuc a) (pos b) (pos 0) 0 (across_neg a (0 * b) ∙ none_times (suc a) b) refl n))
quotient_only (negsuc a) (pos b) (pos (suc k)) h n = far_off (negsuc a) (pos b) (pos (suc k)) k h (across_neg a (suc k * b)) n
quotient_only (negsuc a) (pos b) (negsuc k) h n =
    ap (λ k. neg_ℤ (pos k)) (near_rounded (suc a) b (suc k) h (from_nearest (negsuc a) (pos b) (negsuc k) (suc k) (apart_neg a (suc k * b)) (abs_neg (suc k * b)) n))
quotient_only (negsuc a) (negsuc b) (pos k) h n =
    ap pos (near_rounded (suc a) (suc b) k h (from_nearest (negsuc a) (negsuc b) (pos k) k (apart_neg a (k * suc b)) (abs_neg (k * suc b)) n))
quotient_only (negsuc a) (negsuc b) (negsuc k) h n = far_off (negsuc a) (negsuc b) (negsuc k) k h (across_neg a (suc k * suc b)) n

not_zero : (y : ℤ) → y ≢ pos 0 → 0 < nat_abs y
not_zero (pos zero) h = absurd (h refl)
not_zero (pos (suc n)) h = omega arith
not_zero (negsuc n) h = omega arith

pub quotient_nearest : QuotientNearest
quotient_nearest x y h = (quotient_near x y (not_zero y h), λ q n. quotient_only x y q (not_zero y h) n)

-- ── Pairs ──

pair_found : (rest : Permission → Locality → Effect) (p : Permission) (l : Locality) → with_pair (pair_number p l) rest ≡ rest p l
unfolding with_pair with_code
pair_found rest O Global = refl
pair_found rest O Local = refl
pair_found rest RO Global = refl
pair_found rest RO Local = refl
pair_found rest RW Global = refl
pair_found rest RW Local = refl
pair_found rest RWL Global = refl
pair_found rest RWL Local = refl
pair_found rest RX Global = refl
pair_found rest RX Local = refl
pair_found rest E Global = refl
pair_found rest E Local = refl
pair_found rest RWX Global = refl
pair_found rest RWX Local = refl
pair_found rest RWLX Global = refl
pair_found rest RWLX Local = refl

-- the two codes in a number, each there or not
by_codes : (n : ℕ) (rest : Permission → Locality → Effect) (o : Option Permission) (k : Option Locality) → permission_at (n / 4) ≡ o → locality_at (n % 4) ≡ k → ((p : Permission) (l : Locality) → pos n ≢ pair_number p l) → with_code o (λ p. with_code k (λ l. rest p l)) ≡ faulting UnknownPair
unfolding with_code
by_codes n rest None k e f other = refl
by_codes n rest (Some p) None e f other = refl
by_codes n rest (Some p) (Some l) e f other =
    let g : 4 * (n / 4) + n % 4 ≡ n = div-add-mod n 4 in
    let c = permission_coded (n / 4) p e in
    let d = locality_coded (n % 4) l f in
    absurd (other p l (ap pos (omega (arith, g, c, d))))

unnamed : (z : ℤ) (rest : Permission → Locality → Effect) → ((p : Permission) (l : Locality) → z ≢ pair_number p l) → with_pair z rest ≡ faulting UnknownPair
unfolding with_pair
unnamed (pos n) rest other = by_codes n rest (permission_at (n / 4)) (locality_at (n % 4)) refl refl other
unnamed (negsuc n) rest other = refl

pub pairs_by_number : PairsByNumber
pairs_by_number z rest = (
  λ p l e. ap (λ (x : ℤ). with_pair x rest) e ∙ pair_found rest p l,
  λ other. unnamed z rest other,
)
