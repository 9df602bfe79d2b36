use Rattle.std.proofs.Common.{arith}
use Rattle.survey.proofs.Skipping.{skipped_on, marked_on, still_marked}
use Rattle.survey.proofs.marking.mark_range.Goals as goal

pub loop-address-preserved-then-next-address : goal.loop-address-preserved-then-next-address
loop-address-preserved-then-next-address c = record {
  onward = omega arith;
  raised = skipped_on c.loop-address.invariant.raised c.loop-address.invariant.onward c.loop-address-test.true _ c.skip-next.ensures.onward (c.skip-next.ensures.over _ _ c.loop-address.invariant.marked);
  marked = c.skip-next.ensures.kept _ _ c.loop-address.invariant.marked;
}

pub loop-address-preserved : goal.loop-address-preserved
loop-address-preserved c = record {
  onward = omega arith;
  raised = marked_on c.loop-address.invariant.raised c.loop-address.invariant.onward c.loop-address-test.true c.mark.ensures;
  marked =
      c.note.ensures _ _
      (c.mark.ensures.raised c.loop-address.address (omega arith) (omega arith) (omega arith))
      (still_marked c.mark.ensures _ _ (c.skip-next.ensures.kept _ _ c.loop-address.invariant.marked));
}
