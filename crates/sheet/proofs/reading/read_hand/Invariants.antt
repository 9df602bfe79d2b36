use Rattle.sheet.proofs.Groups.{SoFar}
use Rattle.sheet.proofs.reading.read_hand.Given as goal

abbrev pub invariant-loop-register : goal.invariant-loop-register
invariant-loop-register l = SoFar l.bytes l.hand l.register
