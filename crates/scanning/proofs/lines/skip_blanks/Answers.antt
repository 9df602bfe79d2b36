use Rattle.std.proofs.Common.{◌≡◌, ◌∙◌, arith, rules, tests}
use Rattle.std.specs.List.{prefix_len}
use Rattle.std.proofs.lemmas.Grind.{common_steps}
use Rattle.std.proofs.lemmas.Iterator.{YieldsList-from_slice}
use Rattle.std.proofs.lemmas.Iterator.Consumers.{count_from_yields_List}
use Rattle.std.proofs.lemmas.Iterator.Search.{YieldsList-from_take_while}
use Rattle.std.proofs.lemmas.List.Folds.{length-prefix_len}
use Rattle.notation.specs.Scanning.{blank}
use Rattle.scanning.proofs.Scans.{skipped_drop}
use Rattle.scanning.proofs.lines.skip_blanks.Goals as goal

pub returns : goal.returns
returns c =
    let line = c.args.line.now in
    let n : c.count-blanks.result ≡ prefix_len blank line
    = count_from_yields_List c.take_while.result _ c.count-blanks.ensures.ran
    (YieldsList-from_take_while _ blank (YieldsList-from_slice line cc) c.take_while.ensures.closure c.take_while.ensures.done (λ x b q k. search (rules, tests)))
    ∙ length-prefix_len blank line in
    grind (arith, common_steps, n, skipped_drop line)
