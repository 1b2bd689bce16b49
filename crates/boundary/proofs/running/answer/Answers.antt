use Rattle.ground.proofs.OutcomeLaws.{exits}
use Rattle.boundary.proofs.RunningCodeLaws.{answer_refused, answer_taken}
use Rattle.boundary.proofs.running.answer.Goals as goal

pub returns-in_err-envelope : goal.returns-in_err-envelope
returns-in_err-envelope c = let w = answer_refused _ c.args.tables.now c.args.out.now _ c.read_envelope.ensures _ c.in_err-envelope.was in (exits _ _ _ c.from_residual.ensures.1 w.0, w.1)

pub returns : goal.returns
returns c = answer_taken _ _ _ _ c.read_envelope.ensures _ c.in_ok-envelope.was _ _ c.answer.ensures
