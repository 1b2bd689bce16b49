use Rattle.boundary.proofs.PlanningCodeLaws.{estimate_short, estimate_put}
use Rattle.boundary.proofs.planning.put_estimate.Goals as goal

pub returns-then-out-lines : goal.returns-then-out-lines
returns-then-out-lines c = rw c.at.ensures (estimate_short _ _ c.first-lines.ensures _ c.if-out-lines.true)

pub returns : goal.returns
returns c = estimate_put _ _ c.first-lines.ensures _ _ _ _ _ c.put_lines-p.ensures c.put_two.ensures c.if-out-lines.false
