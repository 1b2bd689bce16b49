use Rattle.estimates.proofs.EstimatorCodeLaws.{Estimating}
use Rattle.estimates.proofs.estimator.estimated.Given as goal

abbrev pub invariant-loop-i : goal.invariant-loop-i
invariant-loop-i l = Estimating l.costs l.envelope l.steps l.i l.now l.spent l.lines
