use Rattle.std.proofs.Common.{◌<◌, ◌≤◌, length, ◌∙◌, arith, length-set, rules}
use Rattle.machine.proofs.Words.{filled_more, filled_all}
use Rattle.machine.proofs.registers.RegistersFromRefHand.from.Goals as goal

pub loop-i-preserved : goal.loop-i-preserved
loop-i-preserved c =
    let there : c.loop-i.i < length c.args.hand.now.numbers = search rules in (
      length-set c.loop-i.words c.loop-i.i c.plain_word.result ∙ c.loop-i.invariant.0,
      filled_more c.loop-i.words c.args.hand.now.numbers c.loop-i.i c.plain_word.result (omega arith) there c.plain_word.ensures c.loop-i.invariant.1,
    )

pub returns : goal.returns
returns c =
    let short : length c.args.hand.now.numbers ≤ c.loop-i.i = search rules in
    filled_all c.loop-i.words c.args.hand.now.numbers c.loop-i.i (omega arith) short c.loop-i.invariant.1
