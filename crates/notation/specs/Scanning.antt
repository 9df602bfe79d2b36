-- The lines of a text, and the words of a line.
use Rattle.std.specs.Prelude.{ℕ, Bool, cond, not, ◌&&◌, ◌||◌, List, [], ◌∷◌, ◌==◌}

-- A line ends at a line feed. What follows the last line feed is a line too, unless it is empty.
abbrev pub onto : ℕ → List (List ℕ) → List (List ℕ)
onto c [] = (c ∷ []) ∷ []
onto c (line ∷ lines) = (c ∷ line) ∷ lines

abbrev pub lines : List ℕ → List (List ℕ)
lines [] = []
lines (c ∷ cs) = cond (c == 10) ([] ∷ lines cs) (onto c (lines cs))

-- A space, a tab or a carriage return parts words. A semicolon begins a comment, which goes on to the end of the line.
abbrev pub blank : ℕ → Bool
blank c = c == 32 || (c == 9 || c == 13)

abbrev pub in_word : ℕ → Bool
in_word c = not (blank c) && not (c == 59)

-- What is left of a line after the blanks at its front.
abbrev pub skipped : List ℕ → List ℕ
skipped [] = []
skipped (c ∷ cs) = cond (blank c) (skipped cs) (c ∷ cs)

-- The word that bytes begin with, and what follows it. The word is empty at the end of a line and at a comment.
abbrev pub front : List ℕ → List ℕ
front [] = []
front (c ∷ cs) = cond (in_word c) (c ∷ front cs) []

abbrev pub behind : List ℕ → List ℕ
behind [] = []
behind (c ∷ cs) = cond (in_word c) (behind cs) (c ∷ cs)
