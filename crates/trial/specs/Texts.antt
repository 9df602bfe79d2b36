-- The lines of a report.
use Rattle.std.specs.Prelude.{ℕ, List, ◌++◌, Some, None, codes, decimal, Option}
use Rattle.std.specs.Fmt.{signed_decimal}
use Rattle.words.specs.Permissions.{permission_code}
use Rattle.words.specs.Localities.{locality_code}
use Rattle.words.specs.Word.{Word, integer, capability}
use Rattle.model.specs.declared.status.Status.{Status}
use Rattle.model.specs.declared.status.Status.TheVariants.{Running, Halted, Failed}
use Rattle.model.specs.Faults.{fault_number}

-- The place of a fault, `-` where it is absent.
abbrev pub place_text : Option ℕ → List ℕ
place_text (Some a) = decimal a
place_text None = codes "-"

-- `halted steps 6`, and a second line for a fault.
abbrev pub outcome_text : Status → ℕ → List ℕ
outcome_text Running steps = codes "running steps " ++ decimal steps
outcome_text Halted steps = codes "halted steps " ++ decimal steps
outcome_text (Failed cause place) steps =
    codes "failed steps " ++ (decimal steps ++ (codes "\nfault " ++ (decimal (fault_number cause) ++ (codes " at " ++ place_text place))))

-- `reach 3 1`, and the outcome from the next line on.
abbrev pub report_text : ℕ → ℕ → Status → ℕ → List ℕ
report_text marked writable status steps =
    codes "reach " ++ (decimal marked ++ (codes " " ++ (decimal writable ++ (codes "\noutcome " ++ outcome_text status steps))))

abbrev pub cell_text : ℕ → Word → List ℕ
cell_text a (integer z) = codes "cell " ++ (decimal a ++ (codes " int " ++ signed_decimal z))
cell_text a (capability c) =
    codes "cell " ++ (decimal a ++ (codes " cap " ++ (decimal (permission_code c.permission) ++ (codes " " ++ (decimal (locality_code c.locality)
    ++ (codes " " ++ (decimal c.base ++ (codes " " ++ (decimal c.end ++ (codes " " ++ decimal c.cursor))))))))))
