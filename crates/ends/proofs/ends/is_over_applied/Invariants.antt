use Rattle.ground.proofs.SearchingLaws.{some_from, Looking}
use Rattle.ends.specs.Ends.{over_at}
use Rattle.ends.proofs.ends.is_over_applied.Given as goal

abbrev pub invariant-loop-relation : goal.invariant-loop-relation
invariant-loop-relation l = Looking some_from (over_at l.program l.applied) l.relation-end l.relation
