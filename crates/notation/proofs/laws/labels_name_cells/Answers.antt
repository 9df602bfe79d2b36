use Rattle.notation.proofs.LabelsCount.{labels_name_cells}
use Rattle.notation.proofs.laws.labels_name_cells.Goals as goal

pub returns : goal.returns
returns c = labels_name_cells
