use Rattle.std.proofs.Common.{ap}
use Rattle.words.specs.Meaning.{meaning, cap_of}
use Rattle.words.proofs.word.Word.integer.Goals as goal

-- src/word.rt:15:5
pub returns-in-Cap : goal.returns-in-Cap
returns-in-Cap c = (cap_of c.in-Cap.field-0, ap meaning c.in-Cap.is)
