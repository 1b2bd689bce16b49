use borrow.Author.Rules.{rules}
use Rattle.ground.proofs.OutcomeLaws.{exits}
use Rattle.papers.proofs.ProgramCodeLaws.{step_no_left, step_no_right, step_is, step_not_legal}
use Rattle.papers.proofs.programs.read_step.Goals as goal

pub returns-in_err-left : goal.returns-in_err-left
returns-in_err-left c = search (step_no_left, rules)

pub returns-in_err-right : goal.returns-in_err-right
returns-in_err-right c =
    exits _ _ _ c.from_residual-in_err-right.ensures.1 (search (step_no_right, c.in_ok-left.was, c.in_err-right.was, rules))

pub returns-then-not-legal_by : goal.returns-then-not-legal_by
returns-then-not-legal_by c = rw c.at.ensures (search (step_not_legal, c.in_ok-left.was, c.in_ok-right.was, rules))

pub returns : goal.returns
returns c = search (step_is, c.in_ok-left.was, c.in_ok-right.was, rules)
