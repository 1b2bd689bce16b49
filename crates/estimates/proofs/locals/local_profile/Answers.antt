use Rattle.estimates.proofs.LocalCodeLaws.{localizing_start, localizing_more, localizing_done}
use borrow.Author.Rules.{rules}
use Rattle.estimates.proofs.locals.local_profile.Goals as goal

pub loop-relation-init : goal.loop-relation-init
loop-relation-init c = search (localizing_start, rules)

pub loop-relation-preserved : goal.loop-relation-preserved
loop-relation-preserved c = search (localizing_more, rules)

pub returns : goal.returns
returns c = search (localizing_done, rules)
