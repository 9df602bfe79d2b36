-- The findings stand after every list of calls, and each call keeps them.
use Rattle.std.proofs.Common.{ℕ, [], ◌∷◌, replicate}
use Rattle.words.specs.Word.{zero_word}
use Rattle.model.specs.Bench.{Call, Answer, State, idle, Does, Leads, made, next}
use Rattle.model.specs.Findings.{FindingsStand, Starts, Keeps, Lawful}
use Rattle.model.proofs.Written.{only_writable_change}
use Rattle.model.proofs.Unseen.{unreached_unseen}
use Rattle.model.proofs.Lent.{nothing_left_behind}

pub findings_stand : FindingsStand
findings_stand size history state leads = record {
  only_writable_change = only_writable_change leads;
  unreached_unseen = unreached_unseen leads;
  nothing_left_behind = nothing_left_behind leads;
}

-- a bench over cells that are all integer 0 starts
pub starts : (size : ℕ) → Starts size (idle (replicate size zero_word))
starts size = (made, findings_stand size [] (idle (replicate size zero_word)) made)

-- what a call does, it does to the findings' keeping
pub keeps : (before : State) (call : Call) (answer : Answer) (after : State) → Does before call answer after → Keeps before call answer after
keeps before call answer after does size history leads =
    let more : Leads size ((call, answer) ∷ history) after = next leads does in
    (more, findings_stand size ((call, answer) ∷ history) after more)

-- what the rules say of a call is enough
pub lawful : {before : State} {call : Call} {answer : Answer} {after : State} → Does before call answer after → Lawful before call answer after
lawful {before} {call} {answer} {after} does = record { does = does; keeps = keeps before call answer after does }
