use Rattle.std.proofs.Common.{List, set, sym, ap, ◌∙◌}
use Rattle.std.proofs.lemmas.List.{set-set, set-get_or}
use Rattle.words.specs.Word.{Word, zero_word, at}
use Rattle.words.specs.Meaning.{meaning}
use Rattle.model.specs.Machine.{Machine}
use Rattle.model.specs.Step.{advance, perform}
use Rattle.model.proofs.Checks.{rules}
use Rattle.machine.specs.Files.{file}
use Rattle.machine.proofs.registers.Registers.shift_and_advance.Goals as goal

-- the advance faults as by the rules, and the register has its word again
pub returns-in-Err : goal.returns-in-Err
unfolding rules
returns-in-Err c cells =
    let r = file c.args.self.now in
    let d = c.args.d in
    let shifted = c.in_ok-shift.ensures in
    let stuck = c.in-Err.ensures cells in
    let back =
    c.put.ensures
    ∙ ap (λ (x : List Word). set x d (meaning c.get-old.result)) (ap (λ (m : Machine). m.registers) stuck.1 ∙ shifted.1)
    ∙ set-set r d (at (file c.shift.new.self) d) (meaning c.get-old.result)
    ∙ ap (set r d) c.get-old.ensures
    ∙ set-get_or r d zero_word in (
      ap (perform r cells) shifted.0 ∙ ap (λ (x : List Word). advance x cells) (sym shifted.1) ∙ stuck.0,
      λ i. record { registers = back i; cells = cells },
    )
