use Rattle.ground.proofs.CountingLaws.{counting_start, counting_most}
use Rattle.station.proofs.RowCodeLaws.{kept_counted, kept_passed}
use borrow.Author.Rules.{rules}
use native.Mathlib.Omega.{arith}
use Rattle.station.proofs.rows.count_kept.Goals as goal
use Rattle.station.proofs.rows.count_kept.Goals.{else-is_kept, then-is_kept}

pub loop-row-init : goal.loop-row-init
loop-row-init c = search (counting_start, rules)

pub overflow_add-n : goal.overflow_add-n
overflow_add-n c = omega (arith, counting_most _ _ _ _ c.loop-row.invariant)

pub loop-row-preserved : goal.loop-row-preserved
loop-row-preserved c =
    elim c.if-is_kept.branch [
      | then-is_kept w ↦ search (kept_counted, rules)
      | else-is_kept w ↦ search (kept_passed, rules)
    ]
