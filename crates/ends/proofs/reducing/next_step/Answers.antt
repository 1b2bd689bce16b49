use Rattle.ends.proofs.ReducingCodeLaws.{following_start, following_other, following_own, sought_found, sought_none}
use native.Mathlib.Omega.{arith}
use borrow.Author.Rules.{rules}
use Rattle.ends.proofs.reducing.next_step.Goals.{then-steps-i+else-left-eq0, else-steps-i}
use Rattle.ends.proofs.reducing.next_step.Goals as goal

pub loop-i-init : goal.loop-i-init
loop-i-init c = search (following_start, rules)

pub returns-then-left-eq0 : goal.returns-then-left-eq0
returns-then-left-eq0 c =
    sought_found _ _ _ _ c.loop-i.i c.loop-i.left c.loop-i.invariant (omega arith) c.if-steps-i.true c.if-left-eq0.true

pub loop-i-preserved : goal.loop-i-preserved
loop-i-preserved c =
    let a = c.args in
    elim c.if-steps-i.branch [
      | then-steps-i+else-left-eq0 w ↦
          rw w.left-is
          (following_own a.steps.now a.relation a.skip a.n c.loop-i.i c.loop-i.left c.loop-i.invariant (omega arith) w.if-steps-i.true w.if-left-eq0.false)
      | else-steps-i w ↦
          rw w.left-is
          (following_other a.steps.now a.relation a.skip a.n c.loop-i.i c.loop-i.left c.loop-i.invariant (omega arith) w.if-steps-i.false)
    ]

pub returns : goal.returns
returns c = sought_none _ _ _ _ _ _ c.loop-i.invariant (omega arith)
