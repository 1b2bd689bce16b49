use Rattle.station.proofs.MakingCodeLaws.{exits_with, usable_of, make_refused, make_goes}
use Rattle.station.proofs.making.make_values.Goals as goal

pub values_with-requires : goal.values_with-requires
values_with-requires c = usable_of _ _ _ _ c.usable_end.ensures _ c.in_ok-papers.was

pub returns-in_err-papers : goal.returns-in_err-papers
returns-in_err-papers c =
    exits_with _ _ _ c.from_residual.ensures.1 (make_refused _ _ _ _ c.usable_end.ensures _ _ _ c.in_err-papers.was)

pub returns : goal.returns
returns c = make_goes _ _ _ _ c.usable_end.ensures _ _ _ c.in_ok-papers.was _ _ c.values_with.ensures
