use Rattle.std.proofs.Common.{◌≡◌, ◌∙◌, ◌<◌, eqb, length, sym, arith, rules, tests}
use Rattle.std.specs.List.{position}
use Rattle.std.proofs.lemmas.Iterator.{YieldsList-from_slice}
use Rattle.std.proofs.lemmas.Iterator.Search.{position_from_yields_List}
use Rattle.scanning.proofs.Scans.{line_to_feed, only_line}
use Rattle.scanning.proofs.lines.first_line.Goals.{After-position}
use Rattle.scanning.proofs.lines.first_line.Goals as goal

-- Where the first line feed is, if there is one.
feed : (c : After-position) → position (λ b. eqb b 10) c.args.text.now ≡ c.position.result
feed c = sym (position_from_yields_List (λ b. eqb b 10) _ _ _ c.position.ensures.ran (YieldsList-from_slice c.args.text.now cc) (λ x b q k. search (rules, tests)))

pub returns-in-Some : goal.returns-in-Some
returns-in-Some c = line_to_feed c.args.text.now c.in-Some.feed (feed (goal.at.returns-in-Some c).After-position ∙ c.in-Some.is)

pub returns-in-None-2 : goal.returns-in-None-2
returns-in-None-2 c =
    let some : 0 < length c.args.text.now = grind (arith, c.if-is_empty.ensures) in
    (only_line c.args.text.now some (feed (goal.at.returns-in-None-2 c).After-position ∙ c.in-None.is), some)
