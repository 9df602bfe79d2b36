use Rattle.std.proofs.Common.{◌≡◌, ◌<◌, ◌≤◌, ap, ◌∙◌, ⊎_elim, arith}
use Rattle.std.proofs.lemmas.Bool.{cases_lt}
use Rattle.std.proofs.lemmas.Result.{err_from_is_err_and}
use Rattle.words.specs.Meaning.{meaning}
use Rattle.sheet.specs.Sheets.{sheet_word}
use Rattle.sheet.proofs.Groups.{first}
use Rattle.sheet.proofs.reading.read_cells.Goals as goal

pub returns-in_err-read_group : goal.returns-in_err-read_group
returns-in_err-read_group c =
    let p = err_from_is_err_and c.from_residual.result c.from_residual.ensures.1 in
    rw (p.1, p.2)
    (λ front.
    first _ _ _ (omega arith)
    (λ i below. ⊎_elim (front i) (λ (from : 16 ≤ i). c.loop-group.invariant i from below) (cases_lt i 16)) c.in_err-read_group.ensures)

pub loop-group-preserved : goal.loop-group-preserved
loop-group-preserved c i from below =
    ⊎_elim
    (λ (earlier : i < c.loop-group.group). c.loop-group.invariant i from earlier)
    (λ (here : c.loop-group.group ≤ i).
    let same : i ≡ c.loop-group.group = omega arith in
    (meaning c.in_ok-read_group.field-0, ap (sheet_word c.args.bytes.now) same ∙ c.in_ok-read_group.ensures))
    (cases_lt i c.loop-group.group)

pub returns : goal.returns
returns c i from below = c.loop-group.invariant i from (omega arith)
