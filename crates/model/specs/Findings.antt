-- The three findings together, and what each call of a bench promises of them.
use Rattle.std.specs.Prelude.{ℕ, [], ◌∷◌}
use Rattle.model.specs.Bench.{Call, Answer, State, Does, History, Leads}
use Rattle.model.specs.Writing.{OnlyWritableChange}
use Rattle.model.specs.Seeing.{UnreachedUnseen}
use Rattle.model.specs.Lending.{NothingLeftBehind}

-- After a list of calls that led to the state: who could have changed a cell, what could not have been seen, and what the visits left behind.
pub record Findings (size : ℕ) (history : History) (state : State) : Type 0 where
  pub only_writable_change : OnlyWritableChange size history state
  pub unreached_unseen : UnreachedUnseen size history state
  pub nothing_left_behind : NothingLeftBehind history state

-- They stand after every list of calls on a bench over any number of cells.
abbrev pub FindingsStand : Type 0
FindingsStand = (size : ℕ) (history : History) (state : State) → Leads size history state → Findings size history state

-- What the making of a bench promises: the list of no calls leads to its state, and there the findings stand.
abbrev pub Starts : ℕ → State → Type 0
Starts size state = Leads size [] state × Findings size [] state

-- What a call keeps: after any list of calls that led to the state before it, the list with this call leads to the state after it, and there the findings
-- stand.
abbrev pub Keeps : State → Call → Answer → State → Type 0
Keeps before call answer after =
    (size : ℕ) (history : History) → Leads size history before →
    Leads size ((call, answer) ∷ history) after × Findings size ((call, answer) ∷ history) after

-- What a public call of a bench promises: it does what the rules say of it, and keeps the findings.
pub record Lawful (before : State) (call : Call) (answer : Answer) (after : State) : Type 0 where
  pub does : Does before call answer after
  pub keeps : Keeps before call answer after
