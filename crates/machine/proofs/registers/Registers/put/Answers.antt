use Rattle.std.proofs.lemmas.List.{map-set}
use Rattle.words.specs.Meaning.{meaning}
use Rattle.machine.proofs.registers.Registers.put.Goals as goal

pub returns-then-index-lt16 : goal.returns-then-index-lt16
returns-then-index-lt16 c = map-set meaning c.args.self.now.words c.args.number c.args.word
