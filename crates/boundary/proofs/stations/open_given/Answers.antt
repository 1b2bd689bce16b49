use Rattle.ground.proofs.OutcomeLaws.{exits}
use Rattle.boundary.proofs.OpeningCodeLaws.{given_short, given_refused, given_opened}
use Rattle.boundary.proofs.stations.open_given.Goals as goal

pub returns-then-state-lt-LENGTH : goal.returns-then-state-lt-LENGTH
returns-then-state-lt-LENGTH c = given_short _ _ _ _ _ _ _ c.if-state-lt-LENGTH.true _ c.refuse_opening.ensures

pub returns-in_err-end : goal.returns-in_err-end
returns-in_err-end c = let w = given_refused _ _ _ _ _ _ _ c.if-state-lt-LENGTH.false _ _ c.open.ensures _ c.in_err-end.was in (exits _ _ _ c.from_residual.ensures.1 w.0, w.1, w.2)

pub returns : goal.returns
returns c = given_opened _ _ _ _ _ _ _ c.if-state-lt-LENGTH.false _ _ c.open.ensures _ c.in_ok-end.was _ c.put_state.ensures
