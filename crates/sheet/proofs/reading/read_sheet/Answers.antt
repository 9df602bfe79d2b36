use Rattle.std.proofs.Common.{◌≡◌, ℕ, ◌<◌, lit<, inr, refl, ◌∙◌, rules}
use Rattle.std.proofs.Math.ListN.{get_or}
use Rattle.std.proofs.lemmas.Result.{err_from_is_err_and}
use Rattle.std.proofs.lemmas.List.{get_or-take, take_rest}
use Rattle.words.specs.Word.{at}
use Rattle.groups.specs.Hands.{hand_words}
use Rattle.sheet.proofs.reading.read_sheet.Goals as goal

pub returns-in_err-read_cells : goal.returns-in_err-read_cells
returns-in_err-read_cells c =
    let p = err_from_is_err_and c.from_residual-in_err-read_cells.result c.from_residual-in_err-read_cells.ensures.1 in
    let first = c.in_err-read_cells.ensures (λ i l. (at (hand_words c.in_ok-hand.hand) i, c.in_ok-hand.ensures i l)) in
    rw (p.1, p.2) (inr (search rules, first))

pub returns : goal.returns
returns c =
    let bytes = c.args.bytes.now in
    let front = rw c.unwrap.ensures at c.first_chunk.ensures.cases in
    let byte : (i : ℕ) → i < 4 → get_or c.unwrap.result.now i 0 ≡ get_or bytes i 0 = λ i below. rw front.same (get_or-take 4 bytes i 0 below) in
    record {
      length_is = search rules;
      budget_is = c.from_be_bytes-budget.ensures ∙ simp (byte 0 (lit< tt), byte 1 (lit< tt), byte 2 (lit< tt), byte 3 (lit< tt)) refl;
      hand_in = c.in_ok-hand.ensures;
      cells_in = c.in_ok-read_cells.ensures;
      cells_are = take_rest c.args.bytes.now 132;
    }
