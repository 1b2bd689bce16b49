use Rattle.boundary.proofs.PlanningCodeLaws.{line_puts, lines_put}
use Rattle.ground.proofs.WritingLaws.{writing_start}
use borrow.Author.Rules.{rules}
use Rattle.boundary.proofs.planning.put_lines.Goals as goal

pub loop-line-init : goal.loop-line-init
loop-line-init c = search (writing_start, rules)

pub loop-line-preserved : goal.loop-line-preserved
loop-line-preserved c = search (line_puts, rules)

pub returns : goal.returns
returns c = search (lines_put, rules)
