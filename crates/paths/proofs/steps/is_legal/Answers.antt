use Rattle.paths.proofs.StepCodeLaws.{legal_refused, legal_answered}
use borrow.Author.Rules.{rules}
use Rattle.paths.proofs.steps.is_legal.Goals as goal

pub returns-in_err-taken : goal.returns-in_err-taken
returns-in_err-taken c = search (legal_refused, rules)

pub returns : goal.returns
returns c = search (legal_answered, c.in_ok-taken.was, rules)
