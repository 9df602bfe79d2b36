use Rattle.std.proofs.Common.{ℕ, ◌<◌, ◌≤◌}
use Rattle.sheet.specs.Sheets.{Packs}
use Rattle.sheet.proofs.reading.read_cells.Given as goal

abbrev pub invariant-loop-group : goal.invariant-loop-group
invariant-loop-group l = (i : ℕ) → 16 ≤ i → i < l.group → Packs l.bytes i
