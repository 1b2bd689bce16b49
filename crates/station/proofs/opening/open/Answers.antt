use Rattle.station.proofs.OpeningCodeLaws.{open_good, open_papers, open_goes}
use Rattle.station.proofs.MakingCodeLaws.{exits_with}
use Rattle.station.proofs.opening.open.Goals as goal

pub open_with-requires : goal.open_with-requires
open_with-requires c = open_good _ _ c.args.site c.args.run c.args.tables.now c.args.marks.now _ c.check_papers.ensures _ c.in_ok-papers.was

pub returns-in_err-papers : goal.returns-in_err-papers
returns-in_err-papers c =
    exits_with _ _ _ c.from_residual.ensures.1 (open_papers _ _ _ _ _ _ _ c.check_papers.ensures _ c.in_err-papers.was)

pub returns : goal.returns
returns c = open_goes _ _ _ _ _ _ _ c.check_papers.ensures _ c.in_ok-papers.was _ _ c.open_with.ensures
