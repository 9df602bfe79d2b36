use Rattle.std.proofs.Common.{Bool, sym, subst}
use Rattle.words.specs.Orders.{Exactly, PermissionBelow}
use Rattle.words.proofs.Deciding.{decides}
use Rattle.words.proofs.permission.Permission.is_below.Goals as goal

pub returns : goal.returns
returns c =
    let P : Bool → Type 0 = λ b. Exactly b (PermissionBelow c.args.self c.args.other) in
    subst P (sym c.below.ensures) (decides c.args.self c.args.other)
