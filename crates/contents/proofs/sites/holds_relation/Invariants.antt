use Rattle.ground.proofs.SearchingLaws.{some_from, Looking}
use Rattle.contents.specs.Sites.{is_at}
use Rattle.contents.proofs.sites.holds_relation.Given as goal

abbrev pub invariant-loop-i : goal.invariant-loop-i
invariant-loop-i l = Looking some_from (is_at l.envelope l.site) l.end l.i
