use Rattle.std.proofs.Common.{rules, ◌≡◌, ℕ, nat_le, ◌∙◌, sym, refl, arith}
use Rattle.std.specs.List.{count_by}
use Rattle.std.proofs.lemmas.List.Recursion.{is_count_by}
use Rattle.model.specs.Survey.{count_from}
use Rattle.survey.specs.Levels.{level_number}
use Rattle.survey.proofs.level.Level.count.Goals as goal

pub returns : goal.returns
returns c =
    let k : ℕ = level_number c.args.self in
    let counted : c.sum.result ≡ count_by (λ (m : ℕ). nat_le k m) c.args.marks.now = search rules in
    counted ∙ sym (is_count_by (count_from k) (λ (m : ℕ). nat_le k m) refl (λ m xs. search (rules, arith)) c.args.marks.now)
