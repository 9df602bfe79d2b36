use Rattle.std.proofs.Common.{rules, tests}
use Rattle.std.specs.Str.{bytes_eq}
use Rattle.std.proofs.lemmas.Iterator.{YieldsList-from_slice}
use Rattle.std.proofs.lemmas.Iterator.Search.{position_from_yields_List}
use Rattle.notation.proofs.Naming.{place_of_position}
use Rattle.notation.proofs.names.place_of.Goals as goal

pub returns : goal.returns
returns g c =
    place_of_position c.table.result.now _ _ _ c.table.ensures
    (position_from_yields_List (λ name. bytes_eq name.now c.args.word.now) _ _ _ c.position.ensures.ran
    (YieldsList-from_slice c.table.result.now cc)
    (λ x b q k. search (rules, tests)))
