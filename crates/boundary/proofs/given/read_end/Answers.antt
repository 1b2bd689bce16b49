use borrow.Author.Rules.{rules}
use Rattle.boundary.proofs.GivenCodeLaws.{end_short, end_no_papers, end_unclear, end_read}
use Rattle.boundary.proofs.given.read_end.Goals as goal

pub returns-then-state-lt-LENGTH : goal.returns-then-state-lt-LENGTH
returns-then-state-lt-LENGTH c = rw c.at.ensures (search (end_short, rules))

pub returns-in_err-papers : goal.returns-in_err-papers
returns-in_err-papers c = search (end_no_papers, rules)

pub returns-then-is_unclear : goal.returns-then-is_unclear
returns-then-is_unclear c = rw c.at-then-is_unclear.ensures (search (end_unclear, c.in_ok-papers.was, rules))

pub returns : goal.returns
returns c = search (end_read, c.in_ok-papers.was, rules)
