-- Eight bytes and the number in them.
use Rattle.std.proofs.Common.{◌≡◌, ℕ, suc, ◌+◌, ◌*◌, ◌/◌, ◌%◌, ◌^◌, ◌<◌, List, [], ◌∷◌, length, get_or, drop, sym, refl, ap, ◌∙◌, arith, drop-cons}
use Rattle.std.proofs.lemmas.List.{drop_all}
use Rattle.groups.specs.Groups.{group, number_at}

pub number_group : (n : ℕ) → n < 2 ^ 64 → number_at (group n) 0 ≡ n
number_group n h = omega arith

-- The digits of a number in base 256.
digits : (n a b c d e f g h : ℕ) → a < 256 → b < 256 → c < 256 → d < 256 → e < 256 → f < 256 → g < 256 → h < 256 →
    n ≡ a * 2 ^ 56 + b * 2 ^ 48 + c * 2 ^ 40 + d * 2 ^ 32 + e * 2 ^ 24 + f * 2 ^ 16 + g * 2 ^ 8 + h →
    group n ≡ a ∷ b ∷ c ∷ d ∷ e ∷ f ∷ g ∷ h ∷ []
digits n a b c d e f g h la lb lc ld le lf lg lh s =
    let p0 : n / 2 ^ 56 % 256 ≡ a = omega arith in
    let p1 : n / 2 ^ 48 % 256 ≡ b = omega arith in
    let p2 : n / 2 ^ 40 % 256 ≡ c = omega arith in
    let p3 : n / 2 ^ 32 % 256 ≡ d = omega arith in
    let p4 : n / 2 ^ 24 % 256 ≡ e = omega arith in
    let p5 : n / 2 ^ 16 % 256 ≡ f = omega arith in
    let p6 : n / 2 ^ 8 % 256 ≡ g = omega arith in
    let p7 : n % 256 ≡ h = omega arith in
    λ i. p0 i ∷ p1 i ∷ p2 i ∷ p3 i ∷ p4 i ∷ p5 i ∷ p6 i ∷ p7 i ∷ []

-- A list of eight is the list of its elements.
eight : (bs : List ℕ) → length bs ≡ 8 →
    bs ≡ get_or bs 0 0 ∷ get_or bs 1 0 ∷ get_or bs 2 0 ∷ get_or bs 3 0 ∷ get_or bs 4 0 ∷ get_or bs 5 0 ∷ get_or bs 6 0 ∷ get_or bs 7 0 ∷ []
eight bs h =
    let next : (i : ℕ) → i < 8 → drop i bs ≡ get_or bs i 0 ∷ drop (suc i) bs = λ i l. drop-cons bs i 0 (omega arith) in
    let none : drop 8 bs ≡ [] = drop_all 8 bs (omega arith) in
    next 0 (omega arith)
    ∙ ap (λ t. get_or bs 0 0 ∷ t) (next 1 (omega arith)
    ∙ ap (λ t. get_or bs 1 0 ∷ t) (next 2 (omega arith)
    ∙ ap (λ t. get_or bs 2 0 ∷ t) (next 3 (omega arith)
    ∙ ap (λ t. get_or bs 3 0 ∷ t) (next 4 (omega arith)
    ∙ ap (λ t. get_or bs 4 0 ∷ t) (next 5 (omega arith)
    ∙ ap (λ t. get_or bs 5 0 ∷ t) (next 6 (omega arith)
    ∙ ap (λ t. get_or bs 6 0 ∷ t) (next 7 (omega arith)
    ∙ ap (λ t. get_or bs 7 0 ∷ t) none)))))))

-- Eight bytes are the group of the number in them.
pub group_number : (bs : List ℕ) → length bs ≡ 8 → ((i : ℕ) → get_or bs i 0 < 2 ^ 8) → group (number_at bs 0) ≡ bs
group_number bs h small =
    digits (number_at bs 0) (get_or bs 0 0) (get_or bs 1 0) (get_or bs 2 0) (get_or bs 3 0) (get_or bs 4 0) (get_or bs 5 0) (get_or bs 6 0) (get_or bs 7 0)
    (small 0) (small 1) (small 2) (small 3) (small 4) (small 5) (small 6) (small 7) refl
    ∙ sym (eight bs h)
