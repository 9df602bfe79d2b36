use Rattle.std.proofs.Common.{◌≡◌, ◌==◌, ℕ, length, ap, arith}
use Rattle.std.proofs.lemmas.List.Sums.{count_by-le-length}
use Rattle.survey.proofs.search.Search.new.Goals as goal

pub invariant_of-result-clause-room : goal.invariant_of-result-clause-room
invariant_of-result-clause-room c = let e : length c.new.result.items ≡ 0 = ap length c.new.ensures in omega (arith, count_by-le-length (λ (m : ℕ). m == 0) c.fill.new.self)

pub invariant_of-result-clause-reached_marked : goal.invariant_of-result-clause-reached_marked
invariant_of-result-clause-reached_marked c = c.new-2.ensures 1 _

pub invariant_of-result-clause-writable_marked : goal.invariant_of-result-clause-writable_marked
invariant_of-result-clause-writable_marked c = c.new-3.ensures 2 _
