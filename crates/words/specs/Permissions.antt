-- Permissions: their codes, what each allows, and what a jump makes of it.
use Rattle.std.specs.Prelude.{ℕ, Bool, true, false, cond, Some, None, Option, ◌==◌}
use Rattle.words.specs.declared.permission.Permission.{Permission}
use Rattle.words.specs.declared.permission.Permission.TheVariants.{O, RO, RW, RWL, RX, E, RWX, RWLX}

abbrev pub permission_code : Permission → ℕ
permission_code O = 0
permission_code RO = 1
permission_code RW = 2
permission_code RWL = 3
permission_code RX = 4
permission_code E = 5
permission_code RWX = 6
permission_code RWLX = 7

-- The permission that has a code, if any has.
abbrev pub permission_at : ℕ → Option Permission
permission_at n =
    cond (n == 0) (Some O)
    (cond (n == 1) (Some RO)
    (cond (n == 2) (Some RW)
    (cond (n == 3) (Some RWL)
    (cond (n == 4) (Some RX)
    (cond (n == 5) (Some E)
    (cond (n == 6) (Some RWX)
    (cond (n == 7) (Some RWLX) None)))))))

-- All but O and E read.
abbrev pub reads : Permission → Bool
reads O = false
reads RO = true
reads RW = true
reads RWL = true
reads RX = true
reads E = false
reads RWX = true
reads RWLX = true

-- RW, RWL, RWX and RWLX write.
abbrev pub writes : Permission → Bool
writes O = false
writes RO = false
writes RW = true
writes RWL = true
writes RX = false
writes E = false
writes RWX = true
writes RWLX = true

-- RX, RWX and RWLX execute.
abbrev pub executes : Permission → Bool
executes O = false
executes RO = false
executes RW = false
executes RWL = false
executes RX = true
executes E = false
executes RWX = true
executes RWLX = true

-- RWL and RWLX may also store Local capabilities.
abbrev pub stores_local : Permission → Bool
stores_local O = false
stores_local RO = false
stores_local RW = false
stores_local RWL = true
stores_local RX = false
stores_local E = false
stores_local RWX = false
stores_local RWLX = true

abbrev pub is_enter : Permission → Bool
is_enter O = false
is_enter RO = false
is_enter RW = false
is_enter RWL = false
is_enter RX = false
is_enter E = true
is_enter RWX = false
is_enter RWLX = false

-- A jump to an E enters it, with RX; any other permission stays as it is.
abbrev pub enter : Permission → Permission
enter O = O
enter RO = RO
enter RW = RW
enter RWL = RWL
enter RX = RX
enter E = RX
enter RWX = RWX
enter RWLX = RWLX
