use Rattle.paths.specs.Steps.{legal_by}
use Rattle.paths.specs.Labels.{by_labels}
use Rattle.papers.proofs.ProgramCodeLaws.{Steps}
use Rattle.papers.proofs.programs.from_steps.Given as goal

abbrev pub invariant-loop-i : goal.invariant-loop-i
invariant-loop-i l = Steps (legal_by (by_labels l.labels.of l.envelope) l.envelope) l.envelope l.s l.count l.at l.i l.end l.steps
