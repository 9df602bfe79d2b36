use Rattle.model.proofs.laws.runs_take_a_course.Goals as goal
use Rattle.model.proofs.Course.{runs_take_a_course}

pub returns : goal.returns
returns c = runs_take_a_course
