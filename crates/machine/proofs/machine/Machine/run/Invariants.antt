use Rattle.std.proofs.Common.{◌≡◌}
use Rattle.model.proofs.Running.{After}
use Rattle.machine.specs.Flows.{machine_of}
use Rattle.machine.proofs.machine.Machine.run.Given as goal

abbrev pub invariant-loop-i : goal.invariant-loop-i
invariant-loop-i g l =
    After (machine_of g.M.Memory.row l.initial.self) l.i (machine_of g.M.Memory.row l.self)
    × (g.M.Memory.beyond l.self.memory ≡ g.M.Memory.beyond l.initial.self.memory)
    × (g.M.Memory.lent l.self.memory ≡ g.M.Memory.lent l.initial.self.memory)
