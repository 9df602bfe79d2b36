use Rattle.std.proofs.Common.{◌≡◌, List, length, set, replicate, sym, ap, ◌∙◌, subst, arith}
use Rattle.words.specs.Word.{Word, zero_word}
use Rattle.model.specs.Bench.{idle}
use Rattle.model.specs.Findings.{Starts}
use Rattle.model.proofs.Stand.{starts}
use Rattle.bench.proofs.Fills.{fill_more, fill_all}
use Rattle.bench.proofs.states.Idle.make.Goals as goal

pub loop-address-preserved : goal.loop-address-preserved
loop-address-preserved g c =
    let d = g.M.Memory.row c.args.memory in
    let i = c.loop-address.address in (
      c.store.ensures.after ∙ ap (λ r. set r i zero_word) c.loop-address.invariant.0 ∙ fill_more d i zero_word (omega arith),
      c.store.ensures.rest ∙ c.loop-address.invariant.1,
      c.store.ensures.lent ∙ c.loop-address.invariant.2,
    )

pub returns-clause-starts : goal.returns-clause-starts
returns-clause-starts g c =
    let d = g.M.Memory.row c.args.memory in
    let i = c.loop-address.address in
    let n : i ≡ length d = omega arith in
    let filled = c.loop-address.invariant.0 ∙ fill_all d i zero_word (omega arith) ∙ ap (λ k. replicate k zero_word) n in
    subst (λ (cells : List Word). Starts (length d) (idle cells)) (sym filled) (starts (length d))
