use borrow.Author.Rules.{rules}
use Rattle.ground.proofs.MadeLaws.{made_is}
use Rattle.estimates.proofs.CostCodeLaws.{plain_price, plain_whole}
use Rattle.estimates.proofs.costs.plain_costs.Goals as goal

pub returns : goal.returns
returns c = plain_whole _ (made_is _ plain_price _ 64 (λ i y q h k. search rules) _ c.from_fn.ensures.items)
