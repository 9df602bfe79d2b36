use Rattle.std.proofs.Common.{◌≡◌, ℕ, ◌<◌, length, sym, ap, ◌∙◌, subst, arith, length-append}
use Rattle.words.specs.Word.{Word, at, zero_word}
use Rattle.words.specs.Meaning.{meaning}
use Rattle.memory.specs.Packs.{packed_row, packed_length, plain_group}
use Rattle.memory.proofs.Packs.{packed_at}
use Rattle.model.specs.Bench.{placing, idle, Does}
use Rattle.bench.specs.Answers.{done_answer}
use Rattle.trial.proofs.Calls.{Next, placed_more, next_group, cut_more, plain_word}
use Rattle.trial.proofs.trying.place_groups.Goals as goal

pub loop-address-preserved : goal.loop-address-preserved
loop-address-preserved g c =
    let row = g.M.Memory.row in
    let bytes = c.args.groups.now in
    let n = length c.loop-address.yielded in
    let step = c.in-Some.ensures.steps in
    let inv = c.loop-address.invariant in
    let group : Next bytes c.in-Some.group.now n = next_group bytes _ _ _ _ _ n inv.cut step.0.1.0 step.0.1.1 in
    let there : n < length (packed_row bytes) =
    omega (arith, group.there, packed_length bytes, c.requires, g.M.Memory.bounded c.args.bench.now.memory, g.M.Memory.few)
    in
    let word : meaning c.unwrap_or-word.result ≡ at (packed_row bytes) n =
    ap meaning c.unwrap_or-word.ensures ∙ plain_word c.unpack.result c.in-Some.group.now c.unpack.ensures.value ∙ ap plain_group group.is_group
    ∙ sym (packed_at bytes n zero_word there)
    in
    let before = row c.loop-address.bench.memory in
    let after = row c.place.new.self.memory in
    let at_address : Word → ℕ → Type 0 = λ w a. Does (idle before) (placing a w) (done_answer c.place.result) (idle after) in
    let address : c.in-Some.address ≡ n = step.1 ∙ inv.cut.counted in
    let does : at_address (at (packed_row bytes) n) n = subst (at_address (at (packed_row bytes) n)) address (subst (λ w. at_address w c.in-Some.address) word c.place.ensures.lawful.does) in
    rw length-append
    (record {
      placed = placed_more (packed_row bytes) (row c.args.bench.now.memory) before after n c.place.result inv.placed (omega (arith, there, packed_length bytes, c.requires)) does;
      cut = cut_more bytes _ _ _ _ _ _ _ n inv.cut step.0.1.0 step.0.1.1 step.0.0 step.2;
    })
