use Rattle.std.proofs.Common.{◌≡◌, length, ap, ◌∙◌, arith, length-take}
use Rattle.memory.specs.Packs.{packed_length}
use Rattle.trial.proofs.trying.try_sheet.Goals as goal

pub try_on-memory-requires : goal.try_on-memory-requires
try_on-memory-requires c =
    let cells = c.args.sheet.cells.now in
    let lent = c.new-memory.result.bytes.now in
    let cut : length lent ≡ length cells = ap (λ r. length r.now) c.new-memory.ensures ∙ simp length-take (omega arith) in
    let size = packed_length cells in
    let size' = packed_length lent in
    (omega arith, omega arith)
