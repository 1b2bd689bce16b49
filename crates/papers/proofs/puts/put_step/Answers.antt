use Rattle.papers.proofs.PutCodeLaws.{step_long, put_step}
use borrow.Author.Rules.{rules}
use Rattle.papers.proofs.puts.put_step.Goals as goal

pub returns : goal.returns
returns c = (step_long _ _, search (put_step, rules), search rules)
