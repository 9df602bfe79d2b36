use Rattle.std.proofs.Common.{◌≡◌, ◌+◌, length}
use Rattle.groups.specs.Hands.{hand_words}
use Rattle.survey.specs.Marking.{blanks}
use Rattle.survey.specs.Progress.{Progress}
use Rattle.survey.proofs.surveying.mark_reached.Given as goal

abbrev pub invariant-loop-number : goal.invariant-loop-number
invariant-loop-number g l = record {
  same : l.search.marks.ghost_name ≡ l.initial.search.marks.ghost_name;
  progress : Progress (hand_words l.hand) (g.M.Memory.row l.memory) l.number-index l.search.marks.now l.search.pending.items;
}

abbrev pub invariant-loop-address : goal.invariant-loop-address
invariant-loop-address g l = record {
  same : l.search.marks.ghost_name ≡ l.initial.search.marks.ghost_name;
  progress : Progress (hand_words l.hand) (g.M.Memory.row l.memory) (length (hand_words l.hand)) l.search.marks.now l.search.pending.items;
}

abbrev pub decreases-loop-address : goal.decreases-loop-address
decreases-loop-address g l = length l.search.pending.items + blanks l.search.marks.now
