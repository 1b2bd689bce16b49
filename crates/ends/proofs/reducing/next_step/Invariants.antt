use Rattle.ends.proofs.ReducingCodeLaws.{Following}
use Rattle.ends.proofs.reducing.next_step.Given as goal

abbrev pub invariant-loop-i : goal.invariant-loop-i
invariant-loop-i l = Following l.steps l.relation l.skip l.n l.i l.left
