use mathlib.Core.Path.{ap}
use Rattle.estimates.specs.declared.lines.Estimate.{Estimate}
use Rattle.planner.specs.Plan.{told}
use Rattle.planner.proofs.planner.told.Goals as goal

pub returns : goal.returns
returns c = ap (λ (x : Estimate). told x c.args.program.site c.args.alone) c.estimated-estimate.ensures
