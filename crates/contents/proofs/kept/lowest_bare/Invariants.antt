use Rattle.ground.specs.Searching.{first_from}
use Rattle.ground.proofs.SearchingLaws.{Looking}
use Rattle.contents.proofs.KeptCodeLaws.{bare}
use Rattle.contents.proofs.kept.lowest_bare.Given as goal

abbrev pub invariant-loop-relation : goal.invariant-loop-relation
invariant-loop-relation l = Looking first_from (bare l.envelope) l.end l.relation
