use Rattle.estimates.proofs.CostCodeLaws.{priced_is}
use Rattle.estimates.proofs.costs.priced.Goals as goal

pub returns : goal.returns
returns c = let a = c.args in priced_is a.costs a.sender a.receiver a.size _ c.price_at-price.ensures
