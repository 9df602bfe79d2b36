-- The first line of a text, and what follows its line feed.
use Rattle.std.specs.Prelude.{◌≡◌, ℕ, ◌<◌, List, [], ◌∷◌, length, Some, None, Option}
use Rattle.notation.specs.Scanning.{lines}
use Rattle.scanning.specs.declared.lines.FirstLine.{FirstLine}

-- The lines of the text are the first and those of the rest, which is shorter. Only an empty text has none.
abbrev pub IsFirstLine : List ℕ → Option FirstLine → Type 0
IsFirstLine text (Some f) = (lines text ≡ f.line.now ∷ lines f.rest.now) × (length f.rest.now < length text)
IsFirstLine text None = text ≡ []
