use Rattle.ends.proofs.EndLaws.{over_passed, over_found, over_none}
use borrow.Author.Rules.{rules}
use Rattle.ends.proofs.ends.is_over_applied.Goals as goal

pub returns-then-steps_before-applied : goal.returns-then-steps_before-applied
returns-then-steps_before-applied c = search (over_found, rules)

pub loop-relation-preserved : goal.loop-relation-preserved
loop-relation-preserved c =
    over_passed _ _ _ _ c.loop-relation.invariant c.loop-relation-test.true _ c.steps_before.ensures
    c.if-steps_before-applied.false

pub returns : goal.returns
returns c = search (over_none, rules)
