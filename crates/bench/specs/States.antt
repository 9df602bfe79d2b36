-- The states of a bench that the benches of the code stand for.
use Rattle.std.specs.Prelude.{List}
use Rattle.words.specs.Word.{Word}
use Rattle.machine.specs.Flows.{machine_of}
use Rattle.model.specs.Bench.{State, idle, visiting}
use Rattle.bench.specs.declared.states.Idle.{Idle}
use Rattle.bench.specs.declared.states.Visit.{Visit}

module _ {M : Type 0} (row : M → List Word) where
  abbrev pub idle_of : Idle M → State
  idle_of bench = idle (row bench.memory)

  abbrev pub visit_of : Visit M → State
  visit_of visit = visiting (machine_of row visit.machine) visit.status
