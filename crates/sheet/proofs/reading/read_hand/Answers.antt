use Rattle.std.proofs.Common.{arith}
use Rattle.std.proofs.lemmas.Result.{err_from_is_err_and}
use Rattle.words.specs.Word.{at}
use Rattle.words.specs.Meaning.{meaning}
use Rattle.groups.specs.Hands.{hand_words}
use Rattle.sheet.proofs.Groups.{first, one_more}
use Rattle.sheet.proofs.reading.read_hand.Goals as goal

pub returns-in_err-word : goal.returns-in_err-word
returns-in_err-word c =
    let p = err_from_is_err_and c.from_residual.result c.from_residual.ensures.1 in
    rw (p.1, p.2)
    (first _ _ _ (omega arith) (λ i below. (at (hand_words c.loop-register.hand) i, c.loop-register.invariant.0 i below)) c.in_err-word.ensures)

pub loop-register-preserved : goal.loop-register-preserved
loop-register-preserved c =
    one_more c.args.bytes.now c.loop-register.hand c.set.new.self c.loop-register.register (meaning c.in_ok-word.word) c.set.result (omega arith) c.set.ensures
    c.in_ok-word.ensures c.loop-register.invariant
