use Rattle.words.specs.Meaning.{meaning}
use Rattle.machine.proofs.Words.{shifted_at}
use Rattle.machine.proofs.registers.Registers.shift.Goals as goal

pub returns : goal.returns
returns c =
    shifted_at c.args.self.now.words c.args.number (meaning c.args.by) c.lea.result c.index-words-index.result c.lea.new.word
    c.if-index-words.false c.lea.ensures
