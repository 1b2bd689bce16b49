use borrow.Author.Rules.{rules}
use Rattle.ground.proofs.OutcomeLaws.{exits}
use Rattle.boundary.proofs.GivenCodeLaws.{given_no_envelope, given_no_program, given_papers}
use Rattle.boundary.proofs.given.read_papers.Goals as goal

pub returns-in_err-envelope : goal.returns-in_err-envelope
returns-in_err-envelope c = search (given_no_envelope, rules)

pub returns-in_err-program : goal.returns-in_err-program
returns-in_err-program c = exits _ _ _ c.from_residual-in_err-program.ensures.1 (search (given_no_program, c.in_ok-envelope.was, c.in_err-program.was, rules))

pub returns : goal.returns
returns c = search (given_papers, c.in_ok-envelope.was, c.in_ok-program.was, rules)
