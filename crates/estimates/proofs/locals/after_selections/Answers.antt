use Rattle.estimates.proofs.LocalCodeLaws.{applying_start, applying_more, applying_done}
use borrow.Author.Rules.{rules}
use Rattle.estimates.proofs.locals.after_selections.Goals as goal

pub loop-selection-init : goal.loop-selection-init
loop-selection-init c = search (applying_start, rules)

pub loop-selection-preserved : goal.loop-selection-preserved
loop-selection-preserved c = search (applying_more, rules)

pub returns : goal.returns
returns c = search (applying_done, rules)
