use Rattle.station.proofs.MakingCodeLaws.{exits_with}
use Rattle.station.proofs.RowMessageCodeLaws.{rows_nowhere, rows_wait, rows_here, rows_made}
use Rattle.station.proofs.making.rows_with.Goals as goal

pub returns-then-relation-gt7 : goal.returns-then-relation-gt7
returns-then-relation-gt7 c = rw c.at.ensures (rows_nowhere _ _ _ _ _ _ c.if-relation-gt7.true)

pub returns-in_err-judge_sending : goal.returns-in_err-judge_sending
returns-in_err-judge_sending c =
    exits_with _ _ _ c.from_residual.ensures.1
    (rows_wait _ _ _ _ _ _ _ c.is_at-ours.ensures _ c.step_count-steps.ensures _ c.judge_sending.ensures _ c.in_err-judge_sending.was)

pub put_row_message-requires : goal.put_row_message-requires
put_row_message-requires c = (
  c.requires.shape,
  c.requires.room,
  rows_here _ _ _ _ c.args.end.applied _ c.is_at-ours.ensures _ _ c.judge_sending.ensures c.in_ok-judge_sending.was,
)

pub returns : goal.returns
returns c =
    rows_made _ _ _ _ _ _ _ c.is_at-ours.ensures _ c.step_count-steps.ensures _ c.judge_sending.ensures c.in_ok-judge_sending.was
    _ _ c.put_row_message.ensures
