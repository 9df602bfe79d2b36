-- Labels: a word with a colon at its end, at the front of a line, names the address of the next cell.
use Rattle.std.specs.Prelude.{ℕ, ◌+◌, ◌-◌, Bool, true, false, cond, not, ◌&&◌, ◌||◌, List, [], ◌∷◌, length, take, ℤ, pos, is_some, Some, None, codes, Option, ◌==◌, nat_le, nat_lt, slice_index}
use Rattle.std.specs.Char.{is_ascii_digit, is_ascii_alphabetic}
use Rattle.std.specs.Str.{bytes_eq}
use Rattle.notation.specs.Scanning.{skipped, front, behind}
use Rattle.notation.specs.Names.{instruction_names, permission_names, locality_names, place_of}
use Rattle.notation.specs.Numerals.{number_in, integer_in, register_in}

-- The most cells that a sheet has.
abbrev pub most_cells : ℕ
most_cells = 2048

abbrev pub colon_ends : List ℕ → Bool
colon_ends word = slice_index word (length word - 1) == 58

abbrev pub without_colon : List ℕ → List ℕ
without_colon word = take (length word - 1) word

-- The label of a line, if it has one, and what follows it.
abbrev pub label_of : List ℕ → Option (List ℕ)
label_of line = let word = front (skipped line) in cond (colon_ends word) (Some (without_colon word)) None

abbrev pub unlabelled : List ℕ → List ℕ
unlabelled line = cond (colon_ends (front (skipped line))) (behind (skipped line)) line

-- A name begins with a letter or an underscore and goes on with letters, digits and underscores.
abbrev pub name_byte : ℕ → Bool
name_byte c = is_ascii_alphabetic c || (is_ascii_digit c || c == 95)

abbrev pub name_bytes : List ℕ → Bool
name_bytes [] = true
name_bytes (c ∷ cs) = name_byte c && name_bytes cs

abbrev pub name_shaped : List ℕ → Bool
name_shaped [] = false
name_shaped (c ∷ cs) = not (is_ascii_digit c) && name_bytes (c ∷ cs)

-- `r` and a digit begin the name of a register, whether there is such a register or not.
abbrev pub register_like : List ℕ → Bool
register_like word = slice_index word 0 == 114 && is_ascii_digit (slice_index word 1)

-- The words that mean something else.
abbrev pub reserved : List ℕ → Bool
reserved word =
    is_some (place_of instruction_names word) || (is_some (place_of permission_names word) || (is_some (place_of locality_names word)
    || (register_like word || (bytes_eq (codes "budget") word || bytes_eq (codes "at") word))))

abbrev pub is_name : List ℕ → Bool
is_name word = name_shaped word && not (reserved word)

-- The address after a line that begins at an address: a word takes one cell, `at` moves on to the address that it gives, and a budget, a register or
-- an empty line takes none. The address never passes the most cells.
abbrev pub one_on : ℕ → ℕ
one_on a = cond (nat_lt a most_cells) (a + 1) a

abbrev pub moved_to : Option ℕ → ℕ → ℕ
moved_to (Some n) a = cond (nat_le n most_cells) n a
moved_to None a = a

abbrev pub address_after : List ℕ → ℕ → ℕ
address_after line a =
    let rest = skipped (unlabelled line) in
    let word = front rest in
    cond (length word == 0 || (bytes_eq (codes "budget") word || is_some (register_in word))) a
    (cond (bytes_eq (codes "at") word) (moved_to (number_in (front (skipped (behind rest)))) a) (one_on a))

-- Where a label is defined: the number of the line, and the address of the next cell.
pub record Definition : Type 0 where
  pub line : ℕ
  pub address : ℕ

abbrev pub has_label : Option (List ℕ) → List ℕ → Bool
has_label (Some label) name = bytes_eq label name
has_label None name = false

-- The first line with the label, from the line `n` on, which begins at the address `a`.
abbrev pub defined_from : ℕ → ℕ → List (List ℕ) → List ℕ → Option Definition
defined_from n a [] name = None
defined_from n a (line ∷ lines) name =
    cond (has_label (label_of line) name) (Some (record { line = n; address = a })) (defined_from (n + 1) (address_after line a) lines name)

-- Lines are counted from 1, addresses from 0.
abbrev pub defined : List (List ℕ) → List ℕ → Option Definition
defined lines name = defined_from 1 0 lines name

abbrev pub address_of : Option Definition → Option ℤ
address_of (Some d) = Some (pos d.address)
address_of None = None

abbrev pub or_else : Option ℤ → Option ℤ → Option ℤ
or_else (Some z) other = Some z
or_else None other = other

-- What a word says where a number may stand: an integer, or the address of a label.
abbrev pub value_in : List (List ℕ) → List ℕ → Option ℤ
value_in lines word = or_else (integer_in word) (address_of (defined lines word))
