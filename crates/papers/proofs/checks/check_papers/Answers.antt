use borrow.Author.Rules.{rules}
use Rattle.ground.proofs.OutcomeLaws.{exits}
use Rattle.papers.proofs.CheckLaws.{papers_no_envelope, papers_within, papers_no_program, papers_are}
use Rattle.papers.proofs.checks.check_papers.Goals as goal

pub program_against-requires : goal.program_against-requires
program_against-requires c = search (papers_within, c.in_ok-envelope.was, rules)

pub returns-in_err-envelope : goal.returns-in_err-envelope
returns-in_err-envelope c = search (papers_no_envelope, rules)

pub returns-in_err-program : goal.returns-in_err-program
returns-in_err-program c =
    exits _ _ _ c.from_residual-in_err-program.ensures.1 (search (papers_no_program, c.in_ok-envelope.was, c.in_err-program.was, rules))

pub returns : goal.returns
returns c = search (papers_are, c.in_ok-envelope.was, c.in_ok-program.was, rules)
