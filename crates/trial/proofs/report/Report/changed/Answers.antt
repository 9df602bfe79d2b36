use Rattle.std.proofs.Common.{◌≡◌, ℕ, ◌∙◌, Bool, true, false, List, not, sym, refl}
use Rattle.std.specs.Bool.{then_some}
use Rattle.words.specs.declared.word.Word.{Word as Held}
use Rattle.words.specs.contracts.word.WordPartialEq.TheImpl.{ghosts as words}
use Rattle.words.proofs.Equal.{same_word, other_word}
use Rattle.words.specs.Word.{Word, at}
use Rattle.words.specs.Meaning.{meaning}
use Rattle.trial.specs.Changes.{Changed}
use Rattle.trial.proofs.report.Report.changed.Goals as goal

-- The cell, where the words differ.
where_differing : (before after : List Word) (a : ℕ) (v w : Held) (same : Bool) → words.eq v w ≡ same → meaning v ≡ at before a → meaning w ≡ at after a →
    Changed before after a (then_some (not same) (record { address = a; word = w }))
where_differing before after a v w true e v_is w_is = sym v_is ∙ same_word v w e ∙ w_is
where_differing before after a v w false e v_is w_is = (refl, w_is, λ same. other_word v w e (v_is ∙ same ∙ sym w_is))

pub returns : goal.returns
returns c =
    let same = words.eq c.word_at-before.result c.word_at-word.result in
    let differ : c.ne.result ≡ not same = c.ne.ensures in
    rw (c.then_some.ensures, differ) (where_differing _ _ c.args.address _ _ same refl c.word_at-before.ensures c.word_at-word.ensures)
