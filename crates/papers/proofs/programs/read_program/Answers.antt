use borrow.Author.Rules.{rules}
use Rattle.papers.proofs.ProgramCodeLaws.{envelope_refused, envelope_taken}
use Rattle.papers.proofs.programs.read_program.Goals as goal

pub returns-in_err-envelope : goal.returns-in_err-envelope
returns-in_err-envelope c = search (envelope_refused, rules)

pub returns : goal.returns
returns c = search (envelope_taken, c.in_ok-envelope.was, rules)
