use Rattle.estimates.proofs.CostCodeLaws.{cost_is}
use Rattle.estimates.proofs.costs.step_cost.Goals as goal

pub returns : goal.returns
returns c =
    let a = c.args in
    cost_is a.costs a.envelope a.profile a.step _ _ _ _ _ c.column_of-column.ensures c.count_at-count.ensures
    c.site_of-sender.ensures c.site_of-receiver.ensures c.priced.ensures
