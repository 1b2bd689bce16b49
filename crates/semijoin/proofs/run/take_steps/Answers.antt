use Rattle.semijoin.proofs.RunCodeLaws.{taking_more, taking_done, taking_legal}
use borrow.Author.Rules.{rules}
use native.Mathlib.Omega.{arith}
use Rattle.semijoin.proofs.run.take_steps.Goals as goal

pub take_step-requires : goal.take_step-requires
take_step-requires c =
    let r = taking_legal c.args.envelope c.args.tables.now c.args.steps.now c.args.marks.now c.loop-step.step-index _
    c.loop-step.invariant c.loop-step-test.true c.requires.2 in
    (search rules, search rules, r.left, r.right)

pub loop-step-preserved : goal.loop-step-preserved
loop-step-preserved c =
    taking_more c.args.envelope c.args.tables.now c.args.steps.now c.args.marks.now c.loop-step.step-index _
    c.loop-step.invariant c.loop-step-test.true _ c.take_step.ensures

pub returns : goal.returns
returns c = taking_done _ _ _ _ _ _ c.loop-step.invariant (omega arith)
