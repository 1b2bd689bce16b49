use Rattle.station.proofs.MakingCodeLaws.{exits_with, values_waits, values_none, values_made, values_few}
use native.Mathlib.Omega.{arith}
use Rattle.station.proofs.making.values_with.Goals as goal

pub returns-in_err-judge_sending : goal.returns-in_err-judge_sending
returns-in_err-judge_sending c =
    exits_with _ _ _ c.from_residual.ensures.1 (values_waits _ _ _ _ _ _ c.requires _ c.step_of.ensures _ c.sends_step-ours.ensures _ c.judge_sending.ensures _ c.in_err-judge_sending.was)

pub returns-in_err-count : goal.returns-in_err-count
returns-in_err-count c =
    exits_with _ _ _ c.from_residual-in_err-count.ensures.1
    (values_none _ _ _ _ _ _ c.requires _ c.step_of.ensures _ c.sends_step-ours.ensures _ c.judge_sending.ensures
    c.in_ok-judge_sending.was _ _ c.values_into.ensures.0 c.values_into.ensures.1 _ c.in_err-count.was)

pub overflow_cast-count : goal.overflow_cast-count
overflow_cast-count c =
    omega (
      arith,
      values_few _ c.args.end _ _ _ _ c.requires _ c.step_of.ensures _ c.sends_step-ours.ensures _ c.judge_sending.ensures
          c.in_ok-judge_sending.was _ _ c.values_into.ensures.0 c.values_into.ensures.1 _ c.in_ok-count.was,
    )

pub overflow_add-result : goal.overflow_add-result
overflow_add-result c =
    omega (
      arith,
      values_few _ c.args.end _ _ _ _ c.requires _ c.step_of.ensures _ c.sends_step-ours.ensures _ c.judge_sending.ensures
          c.in_ok-judge_sending.was _ _ c.values_into.ensures.0 c.values_into.ensures.1 _ c.in_ok-count.was,
    )

pub returns : goal.returns
returns c =
    values_made _ _ _ _ _ _ c.requires _ c.step_of.ensures _ c.sends_step-ours.ensures _ c.judge_sending.ensures
    c.in_ok-judge_sending.was _ _ c.values_into.ensures.0 c.values_into.ensures.1 _ c.in_ok-count.was _ c.put_front.ensures
