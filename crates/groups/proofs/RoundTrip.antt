-- Packing and unpacking undo each other.
use Rattle.std.proofs.Common.{◌≡◌, ℕ, ◌+◌, ◌*◌, ◌/◌, ◌%◌, ◌^◌, ◌<◌, ◌≤◌, Bool, true, false, cond, ◌&&◌, eqb, ltb, leb, ◌≢◌, ◌⊎◌, Some, None, Option, sym, refl, ap, ◌∙◌, inl, inr, ⊎_elim, arith}
use Rattle.std.proofs.lemmas.Bool.Decides.{nat_tests}
use Rattle.std.proofs.lemmas.Bool.{cases_Bool, ltb-true, eqb-true, and_parts}
use Rattle.words.proofs.Codes.{permission_coded, locality_coded}
use Rattle.words.specs.declared.permission.Permission.{Permission}
use Rattle.words.specs.declared.permission.Permission.TheVariants.{O, RO, RW, RWL, RX, E, RWX, RWLX}
use Rattle.words.specs.declared.locality.Locality.{Locality}
use Rattle.words.specs.declared.locality.Locality.TheVariants.{Global, Local}
use Rattle.words.specs.Permissions.{permission_code, permission_at}
use Rattle.words.specs.Localities.{locality_code, locality_at}
use Rattle.words.specs.Word.{Cap, Word, integer, capability}
use Rattle.words.specs.Making.{with_codes}
use Rattle.groups.specs.Packing.{packed, unpacked, capability_in, if_made, bits, as_word, complement, signed, Exists}

permission_back : (p : Permission) → permission_at (permission_code p) ≡ Some p
permission_back O = refl
permission_back RO = refl
permission_back RW = refl
permission_back RWL = refl
permission_back RX = refl
permission_back E = refl
permission_back RWX = refl
permission_back RWLX = refl

locality_back : (l : Locality) → locality_at (locality_code l) ≡ Some l
locality_back Global = refl
locality_back Local = refl

pub code_below : (p : Permission) → permission_code p < 8
code_below p = search arith

pub locality_below : (l : Locality) → locality_code l < 2
locality_below l = search arith

-- The fields of a packed capability.
record Fields (n p l b e k : ℕ) : Type 0 where
  top : n / 2 ^ 63 ≡ 1
  low : n % 64 ≡ 0
  f_p : n / 2 ^ 59 % 2 ^ 4 ≡ p
  f_l : n / 2 ^ 57 % 2 ^ 2 ≡ l
  f_b : n / 2 ^ 40 % 2 ^ 17 ≡ b
  f_e : n / 2 ^ 23 % 2 ^ 17 ≡ e
  f_k : n / 2 ^ 6 % 2 ^ 17 ≡ k

fields : (n p l b e k : ℕ) → n ≡ 2 ^ 63 + p * 2 ^ 59 + l * 2 ^ 57 + b * 2 ^ 40 + e * 2 ^ 23 + k * 2 ^ 6
    → p < 8 → l < 2 → b ≤ 65536 → e ≤ 65536 → k ≤ 65536 → Fields n p l b e k
fields n p l b e k h hp hl hb he hk = record {
  top = omega arith;
  low = omega arith;
  f_p = omega arith;
  f_l = omega arith;
  f_b = omega arith;
  f_e = omega arith;
  f_k = omega arith;
}

cap_back : (n : ℕ) (c : Cap) → n ≡ packed (capability c) → Exists (capability c) → unpacked n ≡ Some (capability c)
cap_back n c e h =
    let f : Fields n (permission_code c.permission) (locality_code c.locality) c.base c.end c.cursor
    = fields n _ _ _ _ _ e (code_below c.permission) (locality_below c.locality) h.0 h.1 h.2 in
    let first : ltb n (2 ^ 32) ≡ false = grind (arith, nat_tests, f.top) in
    let second : (eqb (n / 2 ^ 63) 1 && eqb (n % 64) 0) ≡ true = grind (arith, nat_tests, f.top, f.low) in
    let third : (leb c.base 65536 && (leb c.end 65536 && leb c.cursor 65536)) ≡ true = grind (arith, nat_tests) in
    simp (first, second, f.f_p, f.f_l, f.f_b, f.f_e, f.f_k, permission_back, locality_back, third)

pub back : (v : Word) → Exists v → unpacked (packed v) ≡ Some v
back (integer z) h = let first : ltb (complement z) (2 ^ 32) ≡ true = grind (arith, nat_tests) in simp (first, h.1)
back (capability c) h = cap_back (packed (capability c)) c refl h

parts : (po : Option Permission) (lo : Option Locality) (b e k : ℕ) (c : Cap) → if_made (with_codes po lo b e k) ≡ Some c →
    (po ≡ Some c.permission) × (lo ≡ Some c.locality) × (c.base ≡ b) × (c.end ≡ e) × (c.cursor ≡ k)
parts (Some p) (Some l) b e k c h = grind (arith, nat_tests)
parts (Some p) None b e k c h = grind arith
parts None l b e k c h = grind arith

bits_there : (n : ℕ) → n < 2 ^ 32 → complement (signed n) ≡ n
bits_there n h = grind (arith, nat_tests)

-- The two ways in which a number packs a word.
ways : (n : ℕ) (v : Word) → unpacked n ≡ Some v
    → ((n < 2 ^ 32) × (v ≡ integer (signed n))) ⊎ ((n / 2 ^ 63 ≡ 1) × (n % 64 ≡ 0) × (as_word (capability_in n) ≡ Some v))
ways n v h =
    ⊎_elim
    (λ e. inl (ltb-true n (2 ^ 32) e, let k : Some (integer (signed n)) ≡ Some v = simp e at h in cc))
    (λ (e : ltb n (2 ^ 32) ≡ false).
    let t : Bool = eqb (n / 2 ^ 63) 1 && eqb (n % 64) 0 in
    let k : cond t (as_word (capability_in n)) None ≡ Some v = simp e at h in
    ⊎_elim
    (λ (f : t ≡ true). let both = and_parts (eqb (n / 2 ^ 63) 1) (eqb (n % 64) 0) f in
    inr (eqb-true (n / 2 ^ 63) 1 both.0, eqb-true (n % 64) 0 both.1, simp f at k))
    (λ (f : t ≡ false). let z : None ≡ Some v = simp f at k in let z2 : ◌≡◌ {A = ℕ} 0 1 = cc in absurd (omega arith))
    (cases_Bool t))
    (cases_Bool (ltb n (2 ^ 32)))

cap_there : (n : ℕ) (o : Option Cap) (v : Word) → capability_in n ≡ o → as_word o ≡ Some v → n / 2 ^ 63 ≡ 1 → n % 64 ≡ 0 → packed v ≡ n
cap_there n (Some c) v d h top low =
    let e : v ≡ capability c = cc in
    let q = parts (permission_at (bits n 59 4)) (locality_at (bits n 57 2)) (bits n 40 17) (bits n 23 17) (bits n 6 17) c d in
    let p : permission_code c.permission ≡ n / 2 ^ 59 % 2 ^ 4 = permission_coded (bits n 59 4) c.permission q.0 in
    let l : locality_code c.locality ≡ n / 2 ^ 57 % 2 ^ 2 = locality_coded (bits n 57 2) c.locality q.1 in
    let r : packed (capability c) ≡ n = omega (arith, p, l, q.2, q.3, q.4) in
    ap packed e ∙ r
cap_there n None v d h top low = let z : ◌≡◌ {A = ℕ} 0 1 = cc in absurd (omega arith)

pub there : (n : ℕ) (v : Word) → n < 2 ^ 64 → unpacked n ≡ Some v → packed v ≡ n
there n v l h =
    ⊎_elim
    (λ w. ap packed w.1 ∙ bits_there n w.0)
    (λ w. cap_there n (capability_in n) v refl w.2 w.0 w.1)
    (ways n v h)

-- What packs no word is the number of none.
pub nowhere : (n : ℕ) → unpacked n ≡ None → (w : Word) → Exists w → packed w ≢ n
nowhere n h w exists e =
    let some : unpacked n ≡ Some w = ap unpacked (sym e) ∙ back w exists in
    let z : ◌≡◌ {A = ℕ} 0 1 = cc in
    omega arith

-- A packed word has 64 bits.
pub fits : (w : Word) → Exists w → packed w < 2 ^ 64
fits (integer z) h = omega (arith, h.0)
fits (capability c) h = omega (arith, code_below c.permission, locality_below c.locality, h.0, h.1, h.2)
