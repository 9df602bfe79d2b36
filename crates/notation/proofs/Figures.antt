-- The bytes of what is written of numbers, and the numbers that are read back from them.
use Rattle.std.proofs.Common.{◌≡◌, ℕ, suc, ◌+◌, ◌^◌, ◌<◌, Bool, true, false, ◌&&◌, ◌||◌, ltb, leb, List, [], ◌∷◌, length, get_or, ℤ, pos, negsuc, Some, None, decimal, refl, ap, arith, rules}
use Rattle.std.specs.Fmt.{signed_decimal}
use Rattle.std.specs.Str.{all_ascii_digits, bytes_eq}
use Rattle.std.proofs.lemmas.Bool.Decides.{nat_tests}
use Rattle.std.proofs.lemmas.Bool.{le-leb, lt-ltb}
use Rattle.std.proofs.lemmas.Str.Parse.{IsNumeralModel, numerals_by_fold}
use Rattle.std.proofs.lemmas.Fmt.{digits_decimal, digits_value-decimal, length-decimal-le, decimal_nonempty}
use Rattle.words.specs.Word.{integer}
use Rattle.groups.specs.Packing.{Exists}
use Rattle.notation.specs.Scanning.{blank, in_word}
use Rattle.notation.specs.Names.{place_from}
use Rattle.notation.specs.Numerals.{digits_after, number_in, negative, integer_in, register_in}
use Rattle.notation.specs.Places.{fits_word}

pub own : IsNumeralModel (λ ds. all_ascii_digits ds ≡ true) (digits_after 0)
own = numerals_by_fold _ (search rules) digits_after (search rules)

-- A byte of a name or a number: a minus sign, a digit, or something above the colon and the semicolon.
abbrev pub plain_byte : ℕ → Bool
plain_byte c = leb 45 c && (leb c 57 || leb 65 c)

abbrev pub plain : List ℕ → Bool
plain [] = true
plain (c ∷ cs) = plain_byte c && plain cs

pub plain_in_word : (c : ℕ) → plain_byte c ≡ true → in_word c ≡ true
plain_in_word c h = grind (arith, nat_tests)

pub plain_no_blank : (c : ℕ) → plain_byte c ≡ true → blank c ≡ false
plain_no_blank c h = grind (arith, nat_tests)

digits_plain : (ds : List ℕ) → all_ascii_digits ds ≡ true → plain ds ≡ true
digits_plain [] h = refl
digits_plain (c ∷ cs) h = grind (arith, nat_tests, digits_plain cs)

-- The digits of a number that is written.
pub decimal_plain : (n : ℕ) → n < 2 ^ 64 → plain (decimal n) ≡ true
decimal_plain n h = digits_plain (decimal n) (digits_decimal own n h)

pub number_back : (n : ℕ) → n < 2 ^ 32 → number_in (decimal n) ≡ Some n
number_back n h =
    let small : n < 2 ^ 64 = omega arith in
    let some : leb 1 (length (decimal n)) ≡ true = le-leb _ _ (decimal_nonempty n small) in
    let short : leb (length (decimal n)) 10 ≡ true = le-leb _ _ (length-decimal-le 10 n (omega arith) (omega arith) small) in
    let fits : ltb n (2 ^ 32) ≡ true = lt-ltb _ _ h in
    simp (digits_decimal own n small, some, short, digits_value-decimal own n small, fits)

-- Digits are read as an integer, and name no register.
digits_integer : (ds : List ℕ) (n : ℕ) → all_ascii_digits ds ≡ true → number_in ds ≡ Some n → integer_in ds ≡ Some (pos n)
digits_integer [] n d h = absurd (cc)
digits_integer (c ∷ cs) n d h = grind (arith, nat_tests)

-- The first byte of a number is no letter.
abbrev pub first_low : List ℕ → Bool
first_low w = ltb (get_or w 0 0) 65

digits_low : (ds : List ℕ) → all_ascii_digits ds ≡ true → first_low ds ≡ true
digits_low [] h = refl
digits_low (c ∷ cs) h = grind (arith, nat_tests)

pub natural_back : (n : ℕ) → n < 2 ^ 32 → integer_in (decimal n) ≡ Some (pos n)
natural_back n h = digits_integer (decimal n) n (digits_decimal own n (omega arith)) (number_back n h)

-- An integer of 32 bits.
pub word_fits : (z : ℤ) → Exists (integer z) → fits_word z ≡ true
word_fits (pos n) h = grind (arith, nat_tests, h.1)
word_fits (negsuc n) h = grind (arith, nat_tests, h.1)

pub integer_back : (z : ℤ) → fits_word z ≡ true → integer_in (signed_decimal z) ≡ Some z
integer_back (pos n) h = natural_back n (grind (arith, nat_tests))
integer_back (negsuc n) h = ap negative (number_back (suc n) (grind (arith, nat_tests)))

pub signed_plain : (z : ℤ) → fits_word z ≡ true → plain (signed_decimal z) ≡ true
signed_plain (pos n) h = decimal_plain n (grind (arith, nat_tests))
signed_plain (negsuc n) h = decimal_plain (suc n) (grind (arith, nat_tests))

pub signed_low : (z : ℤ) → fits_word z ≡ true → first_low (signed_decimal z) ≡ true
signed_low (pos n) h = digits_low (decimal n) (digits_decimal own n (grind (arith, nat_tests)))
signed_low (negsuc n) h = refl

-- Names that all begin with a letter.
abbrev pub lettered : List (List ℕ) → Bool
lettered [] = true
lettered (name ∷ names) = leb 65 (get_or name 0 0) && lettered names

pub low_other : (name w : List ℕ) → leb 65 (get_or name 0 0) ≡ true → first_low w ≡ true → bytes_eq name w ≡ false
low_other [] w h l = grind (arith, nat_tests)
low_other (x ∷ xs) [] h l = refl
low_other (x ∷ xs) (c ∷ cs) h l = grind (arith, nat_tests)

pub low_no_place : (i : ℕ) (names : List (List ℕ)) (w : List ℕ) → lettered names ≡ true → first_low w ≡ true → place_from i names w ≡ None
low_no_place i [] w h l = refl
low_no_place i (name ∷ names) w h l = grind (arith, low_other name w, low_no_place (i + 1) names w)

pub low_no_register : (w : List ℕ) → first_low w ≡ true → register_in w ≡ None
low_no_register [] l = refl
low_no_register (c ∷ cs) l = grind (arith, nat_tests)

pub register_back : (n : ℕ) → n < 16 → register_in (114 ∷ decimal n) ≡ Some n
register_back n h = grind (arith, nat_tests, number_back n)
