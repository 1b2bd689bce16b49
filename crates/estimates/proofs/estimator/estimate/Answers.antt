use borrow.Author.Rules.{rules}
use Rattle.estimates.proofs.EstimatorCodeLaws.{taken_good, estimate_refused, estimate_taken}
use Rattle.estimates.proofs.estimator.estimate.Goals as goal

pub returns-in_err-papers : goal.returns-in_err-papers
returns-in_err-papers c = search (estimate_refused, rules)

pub estimated_plainly-requires : goal.estimated_plainly-requires
estimated_plainly-requires c =
    taken_good c.args.envelope c.args.program _ c.check_papers.ensures _ c.in_ok-papers.was

pub returns : goal.returns
returns c =
    estimate_taken c.args.envelope c.args.program _ c.check_papers.ensures _ c.in_ok-papers.was _ c.estimated_plainly.ensures
