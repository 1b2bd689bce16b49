use Rattle.station.proofs.RowCodeLaws.{shipping_start, shipping_room, shipping_fits, shipping_yes, shipping_no}
use borrow.Author.Rules.{rules}
use native.Mathlib.Omega.{arith}
use Rattle.station.proofs.rows.put_rows.Goals as goal
use Rattle.station.proofs.rows.put_rows.Goals.{else-kept, then-kept}

pub loop-row-init : goal.loop-row-init
loop-row-init c = search (shipping_start, rules)

pub put_row-requires : goal.put_row-requires
put_row-requires c = shipping_room _ _ _ _ _ _ _ _ c.loop-row.invariant (omega arith) _ c.is_kept-kept.ensures c.if-kept.true c.requires

pub overflow_add-at : goal.overflow_add-at
overflow_add-at c =
    omega (
      arith,
      shipping_fits _ _ _ _ _ _ _ _ c.loop-row.invariant (omega arith) _ c.is_kept-kept.ensures c.if-kept.true c.requires,
    )

pub loop-row-preserved : goal.loop-row-preserved
loop-row-preserved c =
    elim c.if-kept.branch [
      | then-kept w ↦ shipping_yes _ _ _ _ _ _ _ _ c.loop-row.invariant (omega arith) _ c.is_kept-kept.ensures
          w.if-kept.true _ _ w.message-is w.put_row.ensures _ w.at-is
      | else-kept w ↦ shipping_no _ _ _ _ _ _ _ _ c.loop-row.invariant (omega arith) _ c.is_kept-kept.ensures
          w.if-kept.false _ w.message-is _ w.at-is
    ]
