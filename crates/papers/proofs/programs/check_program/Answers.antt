use borrow.Author.Rules.{rules}
use Rattle.papers.proofs.CheckLaws.{program_refused, program_alone}
use Rattle.papers.proofs.programs.check_program.Goals as goal

pub returns-in_err-papers : goal.returns-in_err-papers
returns-in_err-papers c = search (program_refused, rules)

pub returns : goal.returns
returns c = search (program_alone, c.in_ok-papers.was, rules)
