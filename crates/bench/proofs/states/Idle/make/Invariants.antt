use Rattle.std.proofs.Common.{◌≡◌, ◌++◌, drop, replicate}
use Rattle.words.specs.Word.{zero_word}
use Rattle.bench.proofs.states.Idle.make.Given as goal

abbrev pub invariant-loop-address : goal.invariant-loop-address
invariant-loop-address g l =
    let m = g.M.Memory in
    (m.row l.memory ≡ replicate l.address zero_word ++ drop l.address (m.row l.initial.memory))
    × (m.beyond l.memory ≡ m.beyond l.initial.memory)
    × (m.lent l.memory ≡ m.lent l.initial.memory)
