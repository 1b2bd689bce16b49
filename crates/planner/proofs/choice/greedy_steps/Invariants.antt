use Rattle.planner.proofs.ChoiceCodeLaws.{Planning}
use Rattle.planner.proofs.choice.greedy_steps.Given as goal

abbrev pub invariant-loop-step : goal.invariant-loop-step
invariant-loop-step l = Planning l.costs l.envelope l.unused l.now l.steps

abbrev pub decreases-loop-step : goal.decreases-loop-step
decreases-loop-step l = l.unused.count
