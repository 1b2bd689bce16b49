use native.Mathlib.Omega.{arith}
use Rattle.ground.proofs.OutcomeLaws.{exits}
use Rattle.tables.proofs.JudgedLaws.{marks_shaped, marks_room}
use Rattle.semijoin.proofs.RunCodeLaws.{run_refused, run_whole, legal_used}
use Rattle.semijoin.proofs.run.run_checked.Goals as goal

pub returns-in_err-judge_marks : goal.returns-in_err-judge_marks
returns-in_err-judge_marks c =
    let w = run_refused c.args.envelope c.args.program c.args.tables.now c.args.marks.now _ c.judge_marks.ensures
    _ c.in_err-judge_marks.was in
    (exits _ _ _ c.from_residual.ensures.1 w.0, w.1)

pub open_all-requires : goal.open_all-requires
open_all-requires c = (
  c.requires.0,
  marks_shaped _ c.args.tables.now _ _ c.in_ok-judge_marks.was c.judge_marks.ensures,
  marks_room _ c.args.tables.now _ _ c.in_ok-judge_marks.was c.judge_marks.ensures,
)

pub take_steps-requires : goal.take_steps-requires
take_steps-requires c = (
  marks_shaped _ c.args.tables.now _ _ c.in_ok-judge_marks.was c.judge_marks.ensures,
  omega (arith, marks_room c.args.envelope c.args.tables.now _ _ c.in_ok-judge_marks.was c.judge_marks.ensures),
  legal_used c.args.envelope c.args.program _ c.first-steps.ensures c.requires.1,
)

pub returns : goal.returns
returns c =
    run_whole c.args.envelope c.args.program c.args.tables.now c.args.marks.now _ c.judge_marks.ensures
    c.in_ok-judge_marks.was _ _ c.open_all.ensures _ c.first-steps.ensures c.take_steps.ensures
