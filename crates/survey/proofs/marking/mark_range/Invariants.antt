use Rattle.std.proofs.Common.{◌-◌, ◌≤◌, min}
use Rattle.survey.specs.Levels.{level_number}
use Rattle.survey.specs.Marking.{Raised}
use Rattle.survey.specs.Skips.{SkipsMarked}
use Rattle.survey.proofs.marking.mark_range.Given as goal

abbrev pub invariant-loop-address : goal.invariant-loop-address
invariant-loop-address l = record {
  onward : l.initial.address ≤ l.address;
  raised : Raised (level_number l.level) l.initial.address (min l.address l.end) l.initial.marks l.initial.pending.items l.marks l.pending.items;
  marked : SkipsMarked (level_number l.level) l.marks l.skips;
}

abbrev pub decreases-loop-address : goal.decreases-loop-address
decreases-loop-address l = l.end - l.address
