use Rattle.ground.proofs.OutcomeLaws.{exits}
use Rattle.boundary.proofs.OpeningCodeLaws.{open_refused, open_taken}
use Rattle.boundary.proofs.stations.open.Goals as goal

pub returns-in_err-papers : goal.returns-in_err-papers
returns-in_err-papers c = let w = open_refused _ _ c.args.site c.args.run c.args.tables.now c.args.marks.now c.args.state.now _ c.read_papers.ensures _ c.in_err-papers.was in (exits _ _ _ c.from_residual.ensures.1 w.0, w.1, w.2)

pub returns : goal.returns
returns c = open_taken _ _ _ _ _ _ _ _ c.read_papers.ensures _ c.in_ok-papers.was _ _ _ c.open_given.ensures
