use Rattle.std.proofs.Common.{arith}
use Rattle.survey.proofs.Raising.{room_left, blank_raised, marked_raised}
use Rattle.survey.proofs.marking.mark.Goals as goal
use Rattle.survey.proofs.marking.mark.Goals.{then-before-eq0, else-before-eq0}

pub push-requires : goal.push-requires
push-requires c = (omega arith, room_left _ _ c.args.address c.requires.room c.requires.small c.requires.cell c.if-before-eq0.true)

pub returns-after-before-eq0 : goal.returns-after-before-eq0
returns-after-before-eq0 c = elim c.if-before-eq0.branch [
  | then-before-eq0 w ↦ rw (w.pending-is, w.push.ensures.items, ← c.from-byte.ensures) (blank_raised _ _ _ c.requires.cell c.if-before-byte.true _ w.if-before-eq0.true)
  | else-before-eq0 w ↦ rw (w.pending-is, ← c.from-byte.ensures) (marked_raised _ _ _ c.requires.cell c.if-before-byte.true _ (omega (arith, w.if-before-eq0.false)))
]
