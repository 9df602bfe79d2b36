-- The listing of a sheet: a text that says it, with comments that say what the hand reaches.
use Rattle.std.specs.Prelude.{ℕ, zero, suc, ◌+◌, ◌-◌, ◌/◌, cond, List, [], ◌∷◌, ◌++◌, length, take, drop, replicate, codes, decimal, ◌==◌, nat_le, nat_lt, slice_index}
use Rattle.words.specs.Word.{Word, is_zero}
use Rattle.model.specs.Survey.{count_from}
use Rattle.notation.specs.Texts.{word_text, register_text, cell_text}

-- Each line with a line feed behind it.
abbrev pub joined_lines : List (List ℕ) → List ℕ
joined_lines [] = []
joined_lines (line ∷ rest) = line ++ (10 ∷ joined_lines rest)

-- A line for each word of the hand that is not 0, from the register `n` on.
abbrev pub hand_lines : ℕ → List Word → List (List ℕ)
hand_lines n [] = []
hand_lines n (w ∷ ws) = cond (is_zero w) (hand_lines (n + 1) ws) ((register_text n ++ (codes " " ++ word_text w)) ∷ hand_lines (n + 1) ws)

-- How a mark is written in the picture and in words.
abbrev pub mark_sign : ℕ → ℕ
mark_sign m = cond (nat_le 2 m) 35 (cond (m == 1) 43 46)

abbrev pub mark_name : ℕ → List ℕ
mark_name m = cond (nat_le 2 m) (codes "writable") (cond (m == 1) (codes "reached") (codes "apart"))

abbrev pub mark_signs : List ℕ → List ℕ
mark_signs [] = []
mark_signs (m ∷ ms) = mark_sign m ∷ mark_signs ms

-- Spaces that put addresses below 10,000 under one another.
abbrev pub margin : ℕ → List ℕ
margin a = cond (nat_lt a 10) (codes "   ") (cond (nat_lt a 100) (codes "  ") (cond (nat_lt a 1000) (codes " ") []))

-- The picture has a row for each 64 cells, or for what is left of them, behind the address `a` of its first.
abbrev pub picture_rows : ℕ → ℕ → List ℕ → List (List ℕ)
picture_rows zero a marks = []
picture_rows (suc rows) a marks =
    (codes "; " ++ (margin a ++ (decimal a ++ (codes " " ++ mark_signs (take 64 marks))))) ∷ picture_rows rows (a + 64) (drop 64 marks)

-- The registers whose charts mark the cell, from the register `n` on: ` r0 r3`.
abbrev pub leads_text : ℕ → ℕ → List (List ℕ) → List ℕ
leads_text a n [] = []
leads_text a n (chart ∷ charts) =
    cond (slice_index chart a == 0) (leads_text a (n + 1) charts) ((codes " " ++ register_text n) ++ leads_text a (n + 1) charts)

-- At least one space before the comment, and as many as fill 24 columns.
abbrev pub padding : ℕ → List ℕ
padding width = 32 ∷ replicate (23 - width) 32

abbrev pub cell_line : Word → ℕ → ℕ → List (List ℕ) → List ℕ
cell_line w a m charts =
    cell_text w ++ (padding (length (cell_text w)) ++ (codes "; " ++ (decimal a ++ (codes " " ++ (mark_name m ++ leads_text a 0 charts)))))

abbrev pub cell_lines : ℕ → List Word → List ℕ → List (List ℕ) → List (List ℕ)
cell_lines a [] marks charts = []
cell_lines a (w ∷ ws) marks charts = cell_line w a (slice_index marks a) charts ∷ cell_lines (a + 1) ws marks charts

-- `; 3 of 8 cells reached, 1 writable: # writable, + reached, . apart`
abbrev pub reach_line : ℕ → ℕ → ℕ → List ℕ
reach_line marked size writable =
    codes "; " ++ (decimal marked ++ (codes " of " ++ (decimal size ++ (codes " cells reached, " ++ (decimal writable
    ++ codes " writable: # writable, + reached, . apart")))))

abbrev pub budget_line : ℕ → List ℕ
budget_line budget = codes "budget " ++ decimal budget

-- The lines of a listing: the budget, the hand, the picture of what it reaches, and the cells. `marks` is the chart of the hand over the cells, and `charts` has one
-- for each register, as if the hand had no other.
abbrev pub listing_lines : ℕ → List Word → List Word → List ℕ → List (List ℕ) → List (List ℕ)
listing_lines budget hand cells marks charts =
    budget_line budget
    ∷ hand_lines 0 hand
    ++ (reach_line (count_from 1 marks) (length cells) (count_from 2 marks)
    ∷ picture_rows ((length cells + 63) / 64) 0 marks
    ++ cell_lines 0 cells marks charts)

abbrev pub listing : ℕ → List Word → List Word → List ℕ → List (List ℕ) → List ℕ
listing budget hand cells marks charts = joined_lines (listing_lines budget hand cells marks charts)
