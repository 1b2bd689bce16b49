use Rattle.boundary.proofs.PlanningCodeLaws.{program_is}
use Rattle.boundary.proofs.planning.program_of.Goals as goal

pub returns : goal.returns
returns c = program_is _ _ c.line_steps.ensures
