-- The address that a capability reaches.
use Rattle.std.specs.Prelude.{ℕ, Bool, cond, Ok, Err, Result}
use Rattle.words.specs.Word.{Cap, covers}
use Rattle.model.specs.declared.fault.Fault.{Fault}
use Rattle.model.specs.declared.fault.Fault.TheVariants.{NotPermitted, NotCovered}

-- Its cursor, if it permits the access (14) and covers the cursor (15).
abbrev pub reached : Cap → Bool → Result ℕ Fault
reached c permitted = cond permitted (cond (covers c c.cursor) (Ok c.cursor) (Err NotCovered)) (Err NotPermitted)
