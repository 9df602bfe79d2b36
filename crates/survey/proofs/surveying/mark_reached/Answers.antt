use Rattle.std.proofs.Common.{rules, ◌≡◌, ℕ, List, sym, refl, ap, ◌∙◌, subst, arith}
use Rattle.std.proofs.lemmas.List.{get_or-map}
use Rattle.words.specs.Word.{Word, zero_word}
use Rattle.groups.specs.Packing.{plain}
use Rattle.survey.specs.Progress.{Complete}
use Rattle.survey.proofs.Loading.{or_zero, at_loaded}
use Rattle.survey.proofs.Raising.{nothing_raised}
use Rattle.survey.proofs.Progressing.{begun, hand_more, cell_more, completed}
use Rattle.survey.proofs.surveying.mark_reached.Goals as goal

pub loop-number-init : goal.loop-number-init
loop-number-init g c = record {
  same = refl;
  progress = rw c.new-search.ensures.empty (begun _ _ _ c.new-search.ensures.unmarked (omega (arith, c.new-search.ensures.as_long)));
}

pub loop-number-preserved : goal.loop-number-preserved
loop-number-preserved g c = record {
  same = c.follow.ensures.same_reference ∙ c.loop-number.invariant.same;
  progress =
      hand_more _ (get_or-map plain c.args.hand.now.numbers c.loop-number.number-index 0 zero_word (omega arith) ∙ sym c.plain_word.ensures)
      c.loop-number.invariant.progress c.follow.ensures.raised;
}

pub loop-address-preserved-in-Ok : goal.loop-address-preserved-in-Ok
loop-address-preserved-in-Ok g c = record {
  same = c.follow-in-Ok.ensures.same_reference ∙ c.in-Some.ensures.same_reference ∙ c.loop-address.invariant.same;
  progress =
      cell_more c.in-Some.address _ (at_loaded (g.M.Memory.row c.args.memory.now) c.in-Some.address ∙ ap or_zero (sym c.in-Ok.ensures))
      (rw (c.in-Some.ensures.taken) at c.loop-address.invariant.progress) (rw c.in-Some.ensures.marks at c.follow-in-Ok.ensures.raised);
}

-- an address beyond the size, which is never listed: there is nothing to follow
pub loop-address-preserved : goal.loop-address-preserved
loop-address-preserved g c = record {
  same = c.in-Some.ensures.same_reference ∙ c.loop-address.invariant.same;
  progress =
      rw c.in-Some.ensures.marks
      (cell_more c.in-Some.address zero_word (at_loaded (g.M.Memory.row c.args.memory.now) c.in-Some.address ∙ ap or_zero (sym c.in_default-load.ensures))
      (rw (c.in-Some.ensures.taken) at c.loop-address.invariant.progress) (nothing_raised 0 0 0 _ _ (λ a l h k. absurd (omega arith))));
}

still : {hand cells : List Word} {marks marks' : List ℕ} → marks' ≡ marks → Complete hand cells marks → Complete hand cells marks'
still {hand} {cells} e r = subst (λ (m : List ℕ). Complete hand cells m) (sym e) r

pub returns : goal.returns
returns g c =
    let same = sym (c.in_default.ensures.same_reference ∙ c.loop-address.invariant.same ∙ c.loop-number.invariant.same ∙ c.new-search.ensures.same_reference) in
    still {marks = c.next_pending.new.self.marks.now} (search rules)
    (rw c.in_default.ensures.marks (completed (rw c.in_default.ensures.taken.0 at c.loop-address.invariant.progress)))
