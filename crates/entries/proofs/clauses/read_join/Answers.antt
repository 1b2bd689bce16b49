use Rattle.ground.proofs.OutcomeLaws.{exits}
use Rattle.entries.proofs.ClauseCodeLaws.{join_no_left, join_no_right, join_is}
use borrow.Author.Rules.{rules}
use Rattle.entries.proofs.clauses.read_join.Goals as goal

pub returns-in_err-left : goal.returns-in_err-left
returns-in_err-left c = search (join_no_left, rules)

pub returns-in_err-right : goal.returns-in_err-right
returns-in_err-right c =
    exits _ _ _ c.from_residual-in_err-right.ensures.1 (search (join_no_right, c.in_ok-left.was, c.in_err-right.was, rules))

pub returns : goal.returns
returns c = search (join_is, c.in_ok-left.was, c.in_ok-right.was, rules)
