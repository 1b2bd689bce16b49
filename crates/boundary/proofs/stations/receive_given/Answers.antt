use Rattle.ground.proofs.OutcomeLaws.{exits}
use Rattle.boundary.proofs.StationCodeLaws.{receive_long, receive_refused, receive_taken}
use Rattle.boundary.proofs.stations.receive_given.Goals as goal

pub returns-then-store-gt4294967295 : goal.returns-then-store-gt4294967295
returns-then-store-gt4294967295 c = rw c.at.ensures (receive_long _ _ _ _ _ _ c.if-store-gt4294967295.true)

pub returns-in_err-receive : goal.returns-in_err-receive
returns-in_err-receive c = let w = receive_refused _ _ _ _ _ _ c.if-store-gt4294967295.false _ _ _ _ c.receive.ensures _ c.in_err-receive.was in (exits _ _ _ c.from_residual.ensures.1 w.0, w.1, w.2, w.3)

pub returns : goal.returns
returns c = receive_taken _ _ _ _ _ _ c.if-store-gt4294967295.false _ _ _ _ c.receive.ensures c.in_ok-receive.was _ c.put_state.ensures
