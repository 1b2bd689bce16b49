use Rattle.contents.proofs.KeptCodeLaws.{Keeping}
use Rattle.contents.proofs.kept.kept_columns.Given as goal

abbrev pub invariant-loop-column : goal.invariant-loop-column
invariant-loop-column l = Keeping l.envelope l.relation l.end l.column l.count l.numbers
