use Rattle.ground.proofs.OutcomeLaws.{exits}
use Rattle.boundary.proofs.OpeningCodeLaws.{refuse_same, refuse_short}
use Rattle.boundary.proofs.stations.refuse_opening.Goals as goal

pub returns-in_err-open : goal.returns-in_err-open
returns-in_err-open c = exits _ _ _ c.from_residual.ensures.1 (refuse_same _ _ _ _ _ _ _ c.open.ensures.0 _ c.in_err-open.was)

pub returns : goal.returns
returns c = rw c.at.ensures (refuse_short _ _ _ _ _ _ _ c.open.ensures.0 _ c.in_ok-open.was)
