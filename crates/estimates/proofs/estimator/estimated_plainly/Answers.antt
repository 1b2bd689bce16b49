use Rattle.estimates.proofs.EstimatorCodeLaws.{plain_ready}
use borrow.Author.Rules.{rules}
use Rattle.estimates.proofs.estimator.estimated_plainly.Goals as goal

pub estimated-requires : goal.estimated-requires
estimated-requires c = search (plain_ready, rules)
