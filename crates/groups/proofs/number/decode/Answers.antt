use Rattle.std.proofs.Common.{◌≡◌, Some, None, sym, ap, ◌∙◌, subst, rules}
use Rattle.words.specs.Word.{capability}
use Rattle.groups.specs.Packing.{unpacked}
use Rattle.groups.specs.Answers.{Decodes}
use Rattle.words.specs.Meaning.{cap_of}
use Rattle.groups.proofs.RoundTrip.{back, there}
use Rattle.groups.proofs.number.decode.Goals as goal

pub returns-in_ok-held : goal.returns-in_ok-held
returns-in_ok-held c =
    record { value = search rules; exactly = there c.args.number (capability (cap_of c.in_ok-held.held)) (search rules) (search rules) }

pub returns-in_err-held-clause-exactly : goal.returns-in_err-held-clause-exactly
returns-in_err-held-clause-exactly c =
    let n = c.args.number in
    let none : unpacked n ≡ None = search rules in
    let is : c.from_residual.result ≡ None = search rules in
    subst (Decodes n) (sym is) (λ w exists same.
    let some : Some w ≡ None = sym (back w exists) ∙ ap unpacked same ∙ none in
    cc)
