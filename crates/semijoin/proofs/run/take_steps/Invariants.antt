use Rattle.semijoin.proofs.RunCodeLaws.{Taking}
use Rattle.semijoin.proofs.run.take_steps.Given as goal

abbrev pub invariant-loop-step : goal.invariant-loop-step
invariant-loop-step l = Taking l.envelope l.tables l.steps l.initial.marks l.step-index l.marks
