use mathlib.Core.Path.{refl}
use Rattle.ground.proofs.OutcomeLaws.{exits}
use Rattle.boundary.proofs.PlanningCodeLaws.{plan_refused, plan_never, plan_taken}
use Rattle.boundary.proofs.planning.write_plan.Goals as goal

pub returns-in_err-own : goal.returns-in_err-own
returns-in_err-own c = let w = plan_refused _ c.args.program.now _ c.read_envelope.ensures _ c.in_err-own.was in (exits _ _ _ c.from_residual.ensures.1 w.0, w.1)

pub returns-in-Err : goal.returns-in-Err
returns-in-Err c = absurd (plan_never _ c.args.program.now _ c.read_envelope.ensures _ c.in_ok-own.was _ c.plan_paper.ensures _ c.in-Err.is)

pub returns-in-Ok : goal.returns-in-Ok
returns-in-Ok c = plan_taken _ _ _ c.read_envelope.ensures _ c.in_ok-own.was _ c.plan_paper.ensures _ c.in-Ok.is _ refl _ _ c.write_planned.ensures
