use Rattle.ground.proofs.OutcomeLaws.{exits}
use Rattle.boundary.proofs.StationCodeLaws.{rows_refused, rows_made}
use Rattle.boundary.proofs.stations.make_rows.Goals as goal

pub returns-in_err-end : goal.returns-in_err-end
returns-in_err-end c = let w = rows_refused _ _ _ c.args.tables.now c.args.marks.now c.args.relation c.args.message.now _ c.read_end.ensures _ c.in_err-end.was in (exits _ _ _ c.from_residual.ensures.1 w.0, w.1)

pub returns : goal.returns
returns c = rows_made _ _ _ _ _ _ _ _ c.read_end.ensures _ c.in_ok-end.was _ _ c.make_rows.ensures
