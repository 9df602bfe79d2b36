use Rattle.std.proofs.Common.{◌≡◌, ◌+◌, ◌≤◌, length}
use Rattle.std.specs.Iterator.Adapters.{enumerate_source, enumerate_count}
use Rattle.notation.specs.Scanning.{lines}
use Rattle.notation.specs.Labels.{defined, defined_from}
use Rattle.scanning.proofs.labels.find_label.Given as goal

-- The label is looked for in the lines that are left.
abbrev pub invariant-loop-passed : goal.invariant-loop-passed
invariant-loop-passed l =
    let left = lines (enumerate_source l.passed-iterator).0.now in
    record {
      can_next : (goal.iterator-loop-passed).can_next l.passed-iterator;
      is_finite : (goal.iterator-loop-passed).is_finite l.passed-iterator;
      sought : defined (lines l.text) l.name ≡ defined_from (enumerate_count l.passed-iterator + 1) l.address left l.name;
      few : enumerate_count l.passed-iterator + length left ≤ length l.text;
    }
