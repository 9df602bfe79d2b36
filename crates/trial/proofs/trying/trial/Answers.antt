use Rattle.std.proofs.Common.{◌≡◌, ◌-◌, ◌≤◌, length, ap, ◌∙◌, arith, length-drop}
use Rattle.std.proofs.lemmas.Bool.Decides.{nat_tests}
use Rattle.trial.proofs.trying.trial.Goals as goal

pub try_sheet-requires : goal.try_sheet-requires
try_sheet-requires c =
    let says = c.in_ok-sheet.ensures in
    let input = c.args.input.now in
    let short : length input ≤ 16516 = grind (arith, nat_tests, says.length_is) in
    let cells : length c.in_ok-sheet.sheet.cells.now ≡ length input - 132 = ap length says.cells_are ∙ length-drop 132 input in
    omega arith
