use Rattle.groups.specs.Hands.{hand_words}
use Rattle.model.proofs.Stand.{lawful}
use Rattle.bench.proofs.Calls.{survey_does}
use Rattle.bench.proofs.states.Idle.survey.Goals as goal

pub returns-clause-lawful : goal.returns-clause-lawful
returns-clause-lawful g c =
    let hand = hand_words c.args.hand.now in
    let cells = g.M.Memory.row c.args.self.now.memory in
    lawful (survey_does hand cells c.args.chart.now c.survey.new.chart c.survey.result c.survey.ensures)
