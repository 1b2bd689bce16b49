use Rattle.ground.proofs.OutcomeLaws.{exits}
use Rattle.boundary.proofs.PlanningCodeLaws.{cost_refused, cost_judged, cost_taken}
use Rattle.boundary.proofs.planning.write_estimate.Goals as goal

pub returns-in_err-papers : goal.returns-in_err-papers
returns-in_err-papers c = let w = cost_refused _ _ c.args.out.now _ c.read_papers.ensures _ c.in_err-papers.was in (exits _ _ _ c.from_residual.ensures.1 w.0, w.1)

pub returns-in_err-estimate : goal.returns-in_err-estimate
returns-in_err-estimate c = let w = cost_judged _ _ c.args.out.now _ c.read_papers.ensures _ c.in_ok-papers.was _ c.estimate.ensures _ c.in_err-estimate.was in (exits _ _ _ c.from_residual-in_err-estimate.ensures.1 w.0, w.1)

pub returns : goal.returns
returns c = cost_taken _ _ _ _ c.read_papers.ensures _ c.in_ok-papers.was _ c.estimate.ensures _ c.in_ok-estimate.was _ _ c.put_estimate.ensures
