use Rattle.station.proofs.MakingCodeLaws.{exits_with, usable_of}
use Rattle.station.proofs.RowMessageCodeLaws.{make_rows_refused, make_rows_goes}
use Rattle.station.proofs.making.make_rows.Goals as goal

pub rows_with-requires : goal.rows_with-requires
rows_with-requires c = usable_of _ _ _ _ c.usable_end.ensures _ c.in_ok-papers.was

pub returns-in_err-papers : goal.returns-in_err-papers
returns-in_err-papers c =
    exits_with _ _ _ c.from_residual.ensures.1 (make_rows_refused _ _ _ _ _ _ c.usable_end.ensures _ c.in_err-papers.was)

pub returns : goal.returns
returns c = make_rows_goes _ _ _ _ _ _ c.usable_end.ensures _ c.in_ok-papers.was _ _ c.rows_with.ensures
