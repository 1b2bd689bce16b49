use Rattle.station.proofs.NextCodeLaws.{body_part}
use Rattle.station.proofs.MakingCodeLaws.{exits_with_two}
use Rattle.station.proofs.TakingCodeLaws.{values_more, values_eight, values_elsewhere, values_uncounted, values_other, values_fall, values_applied, applied_is}
use native.Mathlib.Omega.{arith}
use Rattle.std.proofs.lemmas.Bool.{not_from_false, not_from_true}
use Rattle.station.proofs.receiving.take_values.Goals as goal

pub returns-then-not-is_at : goal.returns-then-not-is_at
returns-then-not-is_at c = rw c.at.ensures (values_elsewhere _ _ _ _ _ _ c.requires.0 c.requires.1 _ c.step_of.ensures _ c.is_at.ensures (not_from_false _ c.if-not-is_at.true))

pub returns-then-not-is_counted : goal.returns-then-not-is_counted
returns-then-not-is_counted c =
    rw c.at-then-not-is_counted.ensures
    (values_uncounted _ _ _ _ _ _ c.requires.0 c.requires.1 _ c.step_of.ensures _ c.is_at.ensures
    (not_from_true _ c.if-not-is_at.false) _ c.is_counted.ensures (not_from_false _ c.if-not-is_counted.true))

pub returns-then-not-is_next : goal.returns-then-not-is_next
returns-then-not-is_next c =
    rw c.at-then-not-is_next.ensures
    (values_other _ _ _ _ _ _ c.requires.0 c.requires.1 _ c.step_of.ensures _ c.is_at.ensures
    (not_from_true _ c.if-not-is_at.false) _ c.is_counted.ensures (not_from_true _ c.if-not-is_counted.false) _
    c.applied_of-done.ensures _ c.missing_of-missing.ensures _ c.is_next.ensures (not_from_false _ c.if-not-is_next.true) _ c.not_next.ensures)

pub overflow_add-end : goal.overflow_add-end
overflow_add-end c =
    omega (
      arith,
      values_more _ c.requires.0.papers _ c.requires.1 _ c.step_of.ensures _ _ c.missing_of-missing.ensures _
          c.is_next.ensures (not_from_true _ c.if-not-is_next.false),
    )

pub returns-in_err-reduce_by : goal.returns-in_err-reduce_by
returns-in_err-reduce_by c =
    exits_with_two _ _ _ c.from_residual.ensures.1
    (values_fall _ c.args.end.now _ _ _ _ c.requires.0 c.requires.1 _ c.step_of.ensures _ c.is_at.ensures
    (not_from_true _ c.if-not-is_at.false) _ c.is_counted.ensures (not_from_true _ c.if-not-is_counted.false) _
    c.applied_of-done.ensures _ c.missing_of-missing.ensures _ c.is_next.ensures (not_from_true _ c.if-not-is_next.false) _
    (body_part c.args.message.now) _ _ _ c.reduce_by.ensures.0 c.reduce_by.ensures.1 _ c.in_err-reduce_by.was)

pub bounds-end-left : goal.bounds-end-left
bounds-end-left c = omega (arith, values_eight _ _ _ _ c.is_at.ensures (not_from_true _ c.if-not-is_at.false))

pub returns : goal.returns
returns c =
    values_applied _ _ _ _ _ _ c.requires.0 c.requires.1 _ c.step_of.ensures _ c.is_at.ensures
    (not_from_true _ c.if-not-is_at.false) _ c.is_counted.ensures (not_from_true _ c.if-not-is_counted.false) _
    c.applied_of-done.ensures _ c.missing_of-missing.ensures _ c.is_next.ensures (not_from_true _ c.if-not-is_next.false) _
    (body_part c.args.message.now) _ _ _ c.reduce_by.ensures.0 c.reduce_by.ensures.1 _ c.in_ok-reduce_by.was _ (applied_is _ _ _)
