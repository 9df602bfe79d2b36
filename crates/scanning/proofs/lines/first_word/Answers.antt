use Rattle.std.proofs.Common.{◌≡◌, ◌∙◌, arith, rules, tests}
use Rattle.std.specs.List.{prefix_len}
use Rattle.std.proofs.lemmas.Iterator.{YieldsList-from_slice}
use Rattle.std.proofs.lemmas.Iterator.Consumers.{count_from_yields_List}
use Rattle.std.proofs.lemmas.Iterator.Search.{YieldsList-from_take_while}
use Rattle.std.proofs.lemmas.List.Folds.{length-prefix_len}
use Rattle.std.proofs.lemmas.Grind.{common_steps}
use Rattle.notation.specs.Scanning.{in_word}
use Rattle.scanning.proofs.Scans.{front_take, behind_drop}
use Rattle.scanning.proofs.lines.first_word.Goals as goal

pub returns : goal.returns
returns c =
    let line = c.skip_blanks-line.result.now in
    let n : c.count-length.result ≡ prefix_len in_word line
    = count_from_yields_List c.take_while.result _ c.count-length.ensures.ran
    (YieldsList-from_take_while _ in_word (YieldsList-from_slice line cc) c.take_while.ensures.closure c.take_while.ensures.done (λ x b q k. search (rules, tests)))
    ∙ length-prefix_len in_word line in
    record {
      word = grind (arith, common_steps, n, front_take line);
      rest = grind (arith, common_steps, n, behind_drop line);
      left = grind (arith, common_steps);
    }
