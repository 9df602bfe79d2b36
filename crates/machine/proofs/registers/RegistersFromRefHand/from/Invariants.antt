use Rattle.std.proofs.Common.{◌≡◌, map, length, take}
use Rattle.words.specs.Meaning.{meaning}
use Rattle.groups.specs.Hands.{hand_words}
use Rattle.machine.proofs.registers.RegistersFromRefHand.from.Given as goal

abbrev pub invariant-loop-i : goal.invariant-loop-i
invariant-loop-i l = (length l.words ≡ 16) × (take l.i (map meaning l.words) ≡ take l.i (hand_words l.hand))
