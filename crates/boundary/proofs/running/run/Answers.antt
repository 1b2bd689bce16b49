use Rattle.ground.proofs.OutcomeLaws.{exits}
use Rattle.boundary.proofs.RunningCodeLaws.{run_refused, run_taken}
use Rattle.boundary.proofs.running.run.Goals as goal

pub returns-in_err-papers : goal.returns-in_err-papers
returns-in_err-papers c = let w = run_refused _ _ c.args.tables.now c.args.marks.now _ c.read_papers.ensures _ c.in_err-papers.was in (exits _ _ _ c.from_residual.ensures.1 w.0, w.1)

pub returns : goal.returns
returns c = run_taken _ _ _ _ _ c.read_papers.ensures _ c.in_ok-papers.was _ _ c.run_in_one_place.ensures
