use Rattle.planner.proofs.DropCodeLaws.{Dropping}
use Rattle.planner.proofs.drops.dropped.Given as goal

abbrev pub invariant-loop-number : goal.invariant-loop-number
invariant-loop-number l = Dropping l.costs l.envelope l.fn.program l.order l.number-index l.kept l.total
