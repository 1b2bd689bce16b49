use Rattle.estimates.proofs.ColumnCodeLaws.{widening_start, widening_more, widening_done}
use borrow.Author.Rules.{rules}
use Rattle.estimates.proofs.columns.width_of.Goals as goal

pub loop-number-init : goal.loop-number-init
loop-number-init c = search (widening_start, rules)

pub loop-number-preserved : goal.loop-number-preserved
loop-number-preserved c = search (widening_more, rules)

pub returns : goal.returns
returns c = search (widening_done, rules)
