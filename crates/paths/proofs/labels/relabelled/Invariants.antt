use Rattle.ground.proofs.MappingLaws.{Mapping}
use Rattle.paths.proofs.LabelCodeLaws.{renamed}
use Rattle.paths.proofs.labels.relabelled.Given as goal

abbrev pub invariant-loop-i : goal.invariant-loop-i
invariant-loop-i l = Mapping (renamed l.a l.b) l.fn.labels 76 l.i l.out
