use Rattle.ground.proofs.OutcomeLaws.{exits}
use Rattle.boundary.proofs.StationCodeLaws.{end_answer_refused, end_answer_taken}
use Rattle.boundary.proofs.stations.answer_at_end.Goals as goal

pub returns-in_err-end : goal.returns-in_err-end
returns-in_err-end c = let w = end_answer_refused _ _ _ c.args.store.now c.args.out.now _ c.read_end.ensures _ c.in_err-end.was in (exits _ _ _ c.from_residual.ensures.1 w.0, w.1)

pub returns : goal.returns
returns c = end_answer_taken _ _ _ _ _ _ c.read_end.ensures _ c.in_ok-end.was _ _ c.answer_at_end.ensures
