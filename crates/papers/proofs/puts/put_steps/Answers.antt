use Rattle.ground.proofs.WritingLaws.{writing_more}
use borrow.Author.Rules.{rules}
use Rattle.papers.proofs.puts.put_steps.Goals as goal

pub loop-step-preserved : goal.loop-step-preserved
loop-step-preserved c = search (writing_more, rules)
