use Rattle.ground.proofs.OutcomeLaws.{exits}
use Rattle.boundary.proofs.GivenCodeLaws.{end_long}
use Rattle.boundary.proofs.StationCodeLaws.{all_refused, all_taken}
use Rattle.boundary.proofs.stations.receive.Goals as goal

pub receive_given-requires : goal.receive_given-requires
receive_given-requires c = end_long _ _ _ _ c.read_end.ensures _ c.in_ok-end.was

pub returns-in_err-end : goal.returns-in_err-end
returns-in_err-end c = let w = all_refused _ _ _ c.args.tables.now c.args.marks.now c.args.store.now c.args.message.now _ c.read_end.ensures _ c.in_err-end.was in (exits _ _ _ c.from_residual.ensures.1 w.0, w.1, w.2, w.3)

pub returns : goal.returns
returns c = all_taken _ _ _ _ _ _ _ _ c.read_end.ensures _ c.in_ok-end.was _ _ _ _ c.receive_given.ensures
