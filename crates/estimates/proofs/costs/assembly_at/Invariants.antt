use Rattle.estimates.proofs.CostCodeLaws.{Assembling}
use Rattle.estimates.proofs.costs.assembly_at.Given as goal

abbrev pub invariant-loop-relation : goal.invariant-loop-relation
invariant-loop-relation l = Assembling l.costs l.envelope l.profile l.site l.end l.relation l.total
