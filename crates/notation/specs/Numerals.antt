-- Numbers and registers as words of a text.
use Rattle.std.specs.Prelude.{ℕ, ◌+◌, ◌-◌, ◌*◌, ◌^◌, Bool, cond, ◌&&◌, List, [], ◌∷◌, length, ℤ, pos, neg_ℤ, Some, None, Option, ◌==◌, nat_le, nat_lt}
use Rattle.std.specs.Str.{all_ascii_digits}

-- The number that decimal digits write, after a number that stands before them.
abbrev pub digits_after : ℕ → List ℕ → ℕ
digits_after n [] = n
digits_after n (c ∷ cs) = digits_after (n * 10 + (c - 48)) cs

-- The number, where a test of it holds.
abbrev pub kept : Bool → ℕ → Option ℕ
kept test n = cond test (Some n) None

-- One to ten digits that write a number below 2 ^ 32.
abbrev pub number_in : List ℕ → Option ℕ
number_in word =
    cond (all_ascii_digits word && (nat_le 1 (length word) && nat_le (length word) 10))
    (kept (nat_lt (digits_after 0 word) (2 ^ 32)) (digits_after 0 word))
    None

abbrev pub positive : Option ℕ → Option ℤ
positive (Some n) = Some (pos n)
positive None = None

abbrev pub negative : Option ℕ → Option ℤ
negative (Some n) = Some (neg_ℤ (pos n))
negative None = None

-- The same, after a minus sign if there is one.
abbrev pub integer_in : List ℕ → Option ℤ
integer_in [] = None
integer_in (c ∷ cs) = cond (c == 45) (negative (number_in cs)) (positive (number_in (c ∷ cs)))

abbrev pub at_most : ℕ → Option ℕ → Option ℕ
at_most limit (Some n) = kept (nat_le n limit) n
at_most limit None = None

-- A register: `r` and a number up to 15.
abbrev pub register_in : List ℕ → Option ℕ
register_in [] = None
register_in (c ∷ cs) = cond (c == 114) (at_most 15 (number_in cs)) None
