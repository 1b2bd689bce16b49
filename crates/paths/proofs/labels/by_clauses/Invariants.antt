use Rattle.paths.proofs.LabelCodeLaws.{Labelling}
use Rattle.paths.proofs.labels.by_clauses.Given as goal

abbrev pub invariant-loop-i : goal.invariant-loop-i
invariant-loop-i l = Labelling l.envelope l.clauses l.i l.labels
