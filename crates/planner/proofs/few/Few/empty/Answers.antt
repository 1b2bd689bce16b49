use Rattle.planner.proofs.FewLaws.{few_empty}
use Rattle.planner.proofs.few.Few.empty.Goals as goal

pub returns : goal.returns
returns g c = few_empty _
