use Rattle.planner.proofs.ChoiceCodeLaws.{choosing_start, choosing_more, choosing_less, choosing_done}
use borrow.Author.Rules.{rules}
use Rattle.planner.proofs.choice.first_of_greatest.Goals as goal
use Rattle.planner.proofs.choice.first_of_greatest.Goals.{then-most-more, else-most-more}

pub loop-step-init : goal.loop-step-init
loop-step-init c = search (choosing_start, rules)

pub loop-step-preserved : goal.loop-step-preserved
loop-step-preserved c =
    elim c.if-most-more.branch [
      | then-most-more w ↦ search (choosing_more, rules)
      | else-most-more w ↦ search (choosing_less, rules)
    ]

pub returns : goal.returns
returns c = search (choosing_done, rules)
