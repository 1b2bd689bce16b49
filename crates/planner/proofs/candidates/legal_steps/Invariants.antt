use Rattle.planner.proofs.CandidateCodeLaws.{Listing}
use Rattle.planner.proofs.candidates.legal_steps.Given as goal

abbrev pub invariant-loop-k : goal.invariant-loop-k
invariant-loop-k l = Listing l.envelope l.k l.steps
