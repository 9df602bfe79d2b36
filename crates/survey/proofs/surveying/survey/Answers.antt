use Rattle.std.proofs.Common.{◌≡◌, ℕ, ◌-◌, ◌≤◌, ◌++◌, length, drop, ap, arith}
use Rattle.survey.proofs.Charting.{charted}
use Rattle.survey.proofs.surveying.survey.Goals as goal

pub returns : goal.returns
returns g c =
    let enough : length (g.M.Memory.row c.args.memory.now) ≤ length c.args.chart.now = omega arith in
    let size : c.size-size.result - 0 ≡ length (g.M.Memory.row c.args.memory.now) = omega arith in (
      enough,
      charted _ _ c.args.chart.now c.mark_reached.new.marks _ c.mark_reached.ensures enough
          (ap (λ (n : ℕ). c.mark_reached.new.marks ++ drop n c.args.chart.now) size) _ _ c.count.ensures c.count-2.ensures,
    )
