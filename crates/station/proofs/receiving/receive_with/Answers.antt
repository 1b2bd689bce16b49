use Rattle.station.proofs.ReceivingCodeLaws.{spoken_step, spoken_rows, receive_short, receive_other, receive_nothing, receive_step, receive_rows}
use Rattle.station.proofs.receiving.receive_with.Goals as goal

pub returns-then-message-lt-FRONT : goal.returns-then-message-lt-FRONT
returns-then-message-lt-FRONT c = rw c.at.ensures (receive_short _ _ _ _ _ _ c.if-message-lt-FRONT.true)

pub returns-then-message-end : goal.returns-then-message-end
returns-then-message-end c =
    rw c.at-then-message-end.ensures (receive_other _ _ _ _ _ _ c.if-message-lt-FRONT.false c.if-message-end.true)

pub take_values-requires : goal.take_values-requires
take_values-requires c = (
  c.requires,
  spoken_step _ _ _ _ c.speaks_of-about.ensures _ c.step_count-steps.ensures _ c.in-Step.is,
  c.if-message-lt-FRONT.false,
)

pub take_rows-requires : goal.take_rows-requires
take_rows-requires c = spoken_rows _ _ _ _ c.speaks_of-about.ensures _ c.in_use-relations.ensures _ c.in-Rows.is

pub returns-in-Nothing : goal.returns-in-Nothing
returns-in-Nothing c =
    rw c.at-in-Nothing.ensures
    (receive_nothing _ _ _ _ _ _ c.if-message-lt-FRONT.false c.if-message-end.false _ _ c.step_count-steps.ensures
    c.in_use-relations.ensures _ c.speaks_of-about.ensures c.in-Nothing.is)

pub returns-in-Step : goal.returns-in-Step
returns-in-Step c =
    receive_step _ _ _ _ _ _ c.if-message-lt-FRONT.false c.if-message-end.false _ _ c.step_count-steps.ensures
    c.in_use-relations.ensures _ c.speaks_of-about.ensures _ c.in-Step.is _ _ _ c.take_values.ensures

pub returns-in-Rows : goal.returns-in-Rows
returns-in-Rows c =
    receive_rows _ _ _ _ _ _ c.if-message-lt-FRONT.false c.if-message-end.false _ _ c.step_count-steps.ensures
    c.in_use-relations.ensures _ c.speaks_of-about.ensures _ c.in-Rows.is _ _ _ c.take_rows.ensures
