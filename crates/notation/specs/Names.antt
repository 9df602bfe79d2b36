-- The names of instructions, permissions and localities, each in the order of its codes: the tables that writing and reading share.
use Rattle.std.specs.Prelude.{ℕ, ◌+◌, Bool, cond, ◌||◌, List, [], ◌∷◌, Some, None, codes, Option, ◌==◌, nat_le, slice_index_or}
use Rattle.std.specs.Str.{bytes_eq}

-- From opcode 1 on.
abbrev pub instruction_names : List (List ℕ)
instruction_names =
    codes "fail" ∷ codes "halt" ∷ codes "jmp" ∷ codes "jnz" ∷ codes "move" ∷ codes "load" ∷ codes "store" ∷ codes "plus" ∷ codes "minus" ∷ codes "lt"
    ∷ codes "lea" ∷ codes "restrict" ∷ codes "subseg" ∷ codes "isptr" ∷ codes "getp" ∷ codes "getl" ∷ codes "getb" ∷ codes "gete" ∷ codes "geta"
    ∷ codes "quot" ∷ []

abbrev pub permission_names : List (List ℕ)
permission_names = codes "O" ∷ codes "RO" ∷ codes "RW" ∷ codes "RWL" ∷ codes "RX" ∷ codes "E" ∷ codes "RWX" ∷ codes "RWLX" ∷ []

abbrev pub locality_names : List (List ℕ)
locality_names = codes "Global" ∷ codes "Local" ∷ []

-- A name by its place in a table, and the first place that has a name.
abbrev pub named : List (List ℕ) → ℕ → List ℕ
named names i = slice_index_or names i []

abbrev pub place_from : ℕ → List (List ℕ) → List ℕ → Option ℕ
place_from i [] word = None
place_from i (name ∷ names) word = cond (bytes_eq name word) (Some i) (place_from (i + 1) names word)

abbrev pub place_of : List (List ℕ) → List ℕ → Option ℕ
place_of names word = place_from 0 names word

-- Which of D, A and B stand after an instruction's name, by its opcode: `jmp` has D; `jnz` to `geta` have D and A, and some of them B; `load` and
-- `getp` to `geta` take a register as A.
abbrev pub has_d : ℕ → Bool
has_d opcode = nat_le 3 opcode

abbrev pub has_a : ℕ → Bool
has_a opcode = nat_le 4 opcode

abbrev pub has_b : ℕ → Bool
has_b opcode = opcode == 8 || (opcode == 9 || (opcode == 10 || (opcode == 13 || opcode == 20)))

abbrev pub register_a : ℕ → Bool
register_a opcode = opcode == 6 || (opcode == 15 || (opcode == 16 || (opcode == 17 || (opcode == 18 || opcode == 19))))
