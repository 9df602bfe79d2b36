use Rattle.std.proofs.Common.{◌≡◌, ap, ◌∙◌}
use Rattle.memory.specs.Joins.{joined_row}
use Rattle.memory.proofs.Joins.{joined_associative}
use Rattle.memory.proofs.laws.regroup.Goals as goal

pub returns-clause-row : goal.returns-clause-row
returns-clause-row g c =
    let F = g.F.Memory in
    let S = g.S.Memory in
    let T = g.T.Memory in
    let pile = c.args.pile in
    let r = c.new-2.result in
    let first : r.first ≡ pile.first.first = c.new-2.ensures.first ∙ c.into_parts-first.ensures.first ∙ ap (λ p. p.first) c.into_parts-front.ensures.first in
    let second : r.second.first ≡ pile.first.second = ap (λ p. p.first) c.new-2.ensures.second ∙ c.new.ensures.first ∙ c.into_parts-first.ensures.second ∙ ap (λ p. p.second) c.into_parts-front.ensures.first in
    let third : r.second.second ≡ pile.second = ap (λ p. p.second) c.new-2.ensures.second ∙ c.new.ensures.second ∙ c.into_parts-front.ensures.second in
    (λ i. joined_row (F.row (first i)) (joined_row (S.row (second i)) (T.row (third i))))
    ∙ joined_associative (F.row pile.first.first) (S.row pile.first.second) (T.row pile.second)
