use Rattle.planner.proofs.DropCodeLaws.{dropping_start, kept_few, fewer_few, shorter_acceptable, dropping_yes, dropping_no, dropping_done}
use borrow.Author.Rules.{rules}
use Rattle.planner.proofs.drops.dropped.Goals as goal
use Rattle.planner.proofs.drops.dropped.Goals.{else-anew-total, then-anew-total}

pub loop-number-init : goal.loop-number-init
loop-number-init c = search (dropping_start, rules)

pub but_for-fewer-requires : goal.but_for-fewer-requires
but_for-fewer-requires c = search (kept_few, rules)

pub steps_at-shorter-requires : goal.steps_at-shorter-requires
steps_at-shorter-requires c = search (fewer_few, rules)

pub estimated-anew-requires : goal.estimated-anew-requires
estimated-anew-requires c = search (shorter_acceptable, rules)

pub loop-number-preserved : goal.loop-number-preserved
loop-number-preserved c =
    elim c.if-anew-total.branch [
      | then-anew-total w ↦ search (dropping_yes, rules)
      | else-anew-total w ↦ search (dropping_no, rules)
    ]

pub steps_at-requires : goal.steps_at-requires
steps_at-requires c = search (kept_few, rules)

pub returns : goal.returns
returns c = search (dropping_done, rules)
