use Rattle.estimates.specs.Estimate.{kind_of}
use Rattle.planner.specs.Choice.{gain}
use Rattle.planner.proofs.ChoiceCodeLaws.{Choosing}
use Rattle.planner.proofs.choice.first_of_greatest.Given as goal

abbrev pub invariant-loop-step : goal.invariant-loop-step
invariant-loop-step l = Choosing (gain (kind_of l.costs l.envelope) l.profile) l.steps l.step-index l.best l.most
