use Rattle.std.proofs.Common.{◌≡◌, ℕ, ◌/◌, [], length, ap, subst, arith}
use lib.ListN.{length-replicate}
use Rattle.words.specs.Word.{zero_word}
use Rattle.memory.specs.Packs.{packed_row, packed_length}
use Rattle.model.specs.Bench.{Leads}
use Rattle.bench.specs.States.{idle_of}
use Rattle.trial.specs.Trials.{placings}
use Rattle.trial.proofs.Calls.{counted}
use Rattle.trial.proofs.trying.try_on.Goals as goal

pub place_groups-requires : goal.place_groups-requires
place_groups-requires g c =
    let n = length (g.M.Memory.row c.args.memory) in
    omega (arith, packed_length c.args.sheet.now.cells.now, ap length c.make-bench.ensures.cells, length-replicate n zero_word)

pub unwrap-counts-requires : goal.unwrap-counts-requires
unwrap-counts-requires g c =
    let n = length (g.M.Memory.row c.args.memory) in
    counted _ c.survey.result (omega (arith, ap length c.make-bench.ensures.cells, length-replicate n zero_word, c.place_groups.ensures.size, c.requires.1))
    c.survey.ensures.lawful.does

pub returns : goal.returns
returns g c =
    let words = packed_row c.args.sheet.now.cells.now in
    let n = length words in
    let started : Leads n [] (idle_of g.M.Memory.row c.make-bench.result) =
    subst (λ (k : ℕ). Leads k [] (idle_of g.M.Memory.row c.make-bench.result)) c.requires.0 c.make-bench.ensures.starts.0
    in
    let row = g.M.Memory.row in
    let count : length c.args.sheet.now.cells.now / 8 ≡ n = omega (arith, packed_length c.args.sheet.now.cells.now, c.requires.0, c.requires.1) in
    let placed = subst (λ (k : ℕ). Leads n (placings words k []) (idle_of row c.place_groups.new.bench)) count (c.place_groups.ensures.placed n [] started) in
    let survey = rw c.unwrap-counts.ensures at c.survey.ensures.lawful in
    let surveyed = (survey.keeps n _ placed).0 in
    let opened = (c.open-visit.ensures.lawful.keeps n _ surveyed).0 in
    let ran = (c.run-outcome.ensures.lawful.keeps n _ opened).0 in
    let closed = c.close.ensures.lawful.keeps n _ ran in
    let left : row c.end.result ≡ row c.close.result.memory = ap row c.end.ensures in
    rw left (record { chart = _; charted = _; leads = closed.0; findings = closed.1 })
