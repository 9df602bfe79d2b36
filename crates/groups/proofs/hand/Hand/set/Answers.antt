use Rattle.std.proofs.Common.{set, ap, ◌∙◌}
use Rattle.std.proofs.lemmas.List.{map-set}
use Rattle.groups.specs.Packing.{plain, or_zero}
use Rattle.groups.specs.Hands.{hand_words}
use Rattle.groups.proofs.hand.Hand.set.Goals as goal

pub returns : goal.returns
returns c =
    let numbers = c.args.self.now.numbers in
    let n = c.args.register in (
      c.if-register-ge-REGISTERS.false,
      ap (λ m. set numbers n m) c.encode.ensures.value,
      map-set plain numbers n c.encode.result ∙ ap (λ w. set (hand_words c.args.self.now) n w) (ap or_zero c.encode.ensures.back),
    )
