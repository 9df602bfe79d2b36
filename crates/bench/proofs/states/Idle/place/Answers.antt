use Rattle.words.specs.Meaning.{meaning}
use Rattle.model.proofs.Stand.{lawful}
use Rattle.bench.proofs.Calls.{place_does}
use Rattle.bench.proofs.states.Idle.place.Goals as goal

pub returns-clause-lawful : goal.returns-clause-lawful
returns-clause-lawful g c =
    let row = g.M.Memory.row in
    lawful (place_does (row c.args.self.now.memory) (row c.store.new.self) c.args.address (meaning c.args.word) c.store.result c.store.ensures.answer
    c.store.ensures.after)
