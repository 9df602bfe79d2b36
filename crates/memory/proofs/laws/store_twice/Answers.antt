use Rattle.std.proofs.Common.{set, ap, ◌∙◌}
use Rattle.std.proofs.lemmas.List.{set-set}
use Rattle.words.specs.Meaning.{meaning}
use Rattle.memory.proofs.laws.store_twice.Goals as goal

pub returns-clause-after : goal.returns-clause-after
returns-clause-after g c =
    let row = g.M.Memory.row c.args.memory.now in
    let a = c.args.address in
    let v = meaning c.args.later in
    c.store-2.ensures.after ∙ ap (λ r. set r a v) c.store.ensures.after ∙ set-set row a (meaning c.args.earlier) v
