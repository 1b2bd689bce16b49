use Rattle.estimates.proofs.CostCodeLaws.{sent_few, assembling_more, assembling_done}
use borrow.Author.Rules.{rules}
use native.Mathlib.Omega.{arith}
use Rattle.estimates.proofs.costs.assembly_at.Goals as goal

pub overflow_add-total : goal.overflow_add-total
overflow_add-total c =
    let a = c.args in
    omega (arith, sent_few a.costs a.envelope a.profile c.requires a.site _ _ c.sent-more.ensures)

pub loop-relation-preserved : goal.loop-relation-preserved
loop-relation-preserved c = search (assembling_more, rules)

pub returns : goal.returns
returns c = search (assembling_done, rules)
