use Rattle.std.proofs.Common.{false, slice_index_or}
use Rattle.ground.proofs.OutcomeLaws.{exits}
use Rattle.tables.proofs.JudgedLaws.{marks_shaped, marks_room}
use Rattle.semijoin.proofs.CallCodeLaws.{open_within, open_envelope, open_refused, open_taken}
use Rattle.semijoin.proofs.local.open_marks.Goals as goal

pub returns-in_err-envelope : goal.returns-in_err-envelope
returns-in_err-envelope c =
    let w = open_envelope _ c.args.tables.now (λ r. slice_index_or c.args.here r false) c.args.marks.now _ c.check_envelope.ensures
    _ c.in_err-envelope.was in
    (exits _ _ _ c.from_residual.ensures.1 w.0, w.1)

pub returns-in_err-judge_marks : goal.returns-in_err-judge_marks
returns-in_err-judge_marks c =
    let w = open_refused _ c.args.tables.now (λ r. slice_index_or c.args.here r false) c.args.marks.now _ c.check_envelope.ensures
    _ c.in_ok-envelope.was _ c.judge_marks.ensures _ c.in_err-judge_marks.was in
    (exits _ _ _ c.from_residual-in_err-judge_marks.ensures.1 w.0, w.1)

pub open_all-requires : goal.open_all-requires
open_all-requires c = (
  open_within _ c.args.tables.now (λ r. slice_index_or c.args.here r false) c.args.marks.now _ c.check_envelope.ensures
      _ c.in_ok-envelope.was,
  marks_shaped _ c.args.tables.now _ _ c.in_ok-judge_marks.was c.judge_marks.ensures,
  marks_room _ c.args.tables.now _ _ c.in_ok-judge_marks.was c.judge_marks.ensures,
)

pub returns : goal.returns
returns c =
    open_taken _ c.args.tables.now (λ r. slice_index_or c.args.here r false) c.args.marks.now _ c.check_envelope.ensures
    _ c.in_ok-envelope.was _ c.judge_marks.ensures c.in_ok-judge_marks.was _ c.open_all.ensures
