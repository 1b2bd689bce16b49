use borrow.Author.Rules.{rules}
use Rattle.papers.proofs.ProgramCodeLaws.{steps_more, steps_bad, steps_left, steps_done}
use Rattle.papers.proofs.programs.from_steps.Goals as goal

pub returns-in_err-step : goal.returns-in_err-step
returns-in_err-step c = search (steps_bad, rules)

pub loop-i-preserved : goal.loop-i-preserved
loop-i-preserved c = search (steps_more, c.in_ok-step.was, rules)

pub returns-then-end-s : goal.returns-then-end-s
returns-then-end-s c = rw c.at.ensures (search (steps_left, rules))

pub returns : goal.returns
returns c = search (steps_done, rules)
