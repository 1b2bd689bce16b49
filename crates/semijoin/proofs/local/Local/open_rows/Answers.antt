use Rattle.semijoin.proofs.LocalCodeLaws.{opening_more, opening_done}
use borrow.Author.Rules.{rules}
use Rattle.semijoin.proofs.local.Local.open_rows.Goals as goal

pub loop-row-preserved : goal.loop-row-preserved
loop-row-preserved c = search (opening_more, rules)

pub returns : goal.returns
returns c = search (opening_done, rules)
