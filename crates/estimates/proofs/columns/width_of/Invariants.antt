use Rattle.estimates.proofs.ColumnCodeLaws.{Widening}
use Rattle.estimates.proofs.columns.width_of.Given as goal

abbrev pub invariant-loop-number : goal.invariant-loop-number
invariant-loop-number l = Widening l.envelope l.relation l.numbers l.number-index l.total
