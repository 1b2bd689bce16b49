use Rattle.estimates.proofs.EstimatorCodeLaws.{plain_ready}
use borrow.Author.Rules.{rules}
use Rattle.planner.proofs.planner.plan_plainly.Goals as goal

pub plan_for-requires : goal.plan_for-requires
plan_for-requires c = search (plain_ready, rules)
