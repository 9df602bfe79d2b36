use Rattle.model.proofs.laws.missing_cells_carry_refusal.Goals as goal
use Rattle.model.proofs.Course.{missing_cells_carry_refusal}

pub returns : goal.returns
returns c = missing_cells_carry_refusal
