use Rattle.std.proofs.Common.{◌≡◌, Some, sym, ap, ◌∙◌, rules}
use Rattle.words.specs.Word.{capability}
use Rattle.words.specs.Meaning.{cap_of, meaning}
use Rattle.groups.specs.Packing.{packed, unpacked}
use Rattle.groups.proofs.RoundTrip.{back}
use Rattle.groups.proofs.number.encode.Goals as goal

pub returns-in-Cap : goal.returns-in-Cap
returns-in-Cap c =
    let held = c.in-Cap.held in
    let is : meaning c.args.word.now ≡ capability (cap_of held) = ap meaning c.in-Cap.is in
    let value : _ ≡ packed (meaning c.args.word.now) = search rules in
    record {
      value = value;
      back = ap unpacked value ∙ ap (λ w. unpacked (packed w)) is ∙ back (capability (cap_of held)) held.within ∙ ap Some (sym is);
    }
