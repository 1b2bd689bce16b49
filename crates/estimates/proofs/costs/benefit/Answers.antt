use Rattle.estimates.proofs.CostCodeLaws.{benefit_is}
use Rattle.estimates.proofs.costs.benefit.Goals as goal

pub returns : goal.returns
returns c =
    let a = c.args in
    benefit_is a.envelope a.profile a.step _ _ _ c.width_at-width.ensures c.rows_at-before.ensures c.rows_after-after.ensures
