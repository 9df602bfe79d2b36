use Rattle.std.proofs.Common.{List, sym, subst}
use Rattle.words.specs.Word.{Word}
use Rattle.groups.specs.Hands.{hand_words}
use Rattle.model.specs.declared.status.Status.TheVariants.{Running}
use Rattle.model.specs.Bench.{idle, visiting, opening, done, Does, opens}
use Rattle.model.proofs.Stand.{lawful}
use Rattle.bench.proofs.states.Idle.open.Goals as goal

pub returns-clause-lawful : goal.returns-clause-lawful
returns-clause-lawful g c =
    let cells = g.M.Memory.row c.args.self.memory in
    let hand = hand_words c.args.hand.now in
    lawful (subst (λ (r : List Word). Does (idle cells) (opening hand) done (visiting (record { registers = r; cells = cells }) Running)) (sym c.from.ensures) opens)
