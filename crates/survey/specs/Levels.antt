-- The level at which a word marks cells, and which cells it marks.
use Rattle.std.specs.Prelude.{ℕ, Some, None, Option}
use Rattle.words.specs.declared.permission.Permission.{Permission}
use Rattle.words.specs.declared.permission.Permission.TheVariants.{O, RO, RW, RWL, RX, E, RWX, RWLX}
use Rattle.words.specs.Word.{Word, integer, capability}
use Rattle.survey.specs.declared.level.Level.{Level}
use Rattle.survey.specs.declared.level.Level.TheVariants.{Reached, Writable}

-- The byte of a cell that is marked at a level.
abbrev pub level_number : Level → ℕ
level_number Reached = 1
level_number Writable = 2

-- The same, and 0 for no level.
abbrev pub level_or_zero : Option Level → ℕ
level_or_zero None = 0
level_or_zero (Some level) = level_number level

-- 2 for a permission that writes, else 1, and 0 for O.
abbrev pub permission_level : Permission → ℕ
permission_level O = 0
permission_level RO = 1
permission_level RW = 2
permission_level RWL = 2
permission_level RX = 1
permission_level E = 1
permission_level RWX = 2
permission_level RWLX = 2

-- A capability marks the cells from its base up to and without its end, at its permission's level. An integer marks none.
abbrev pub word_level : Word → ℕ
word_level (integer z) = 0
word_level (capability c) = permission_level c.permission

abbrev pub word_base : Word → ℕ
word_base (integer z) = 0
word_base (capability c) = c.base

abbrev pub word_end : Word → ℕ
word_end (integer z) = 0
word_end (capability c) = c.end
