use Rattle.station.proofs.RowCodeLaws.{Shipping}
use Rattle.station.proofs.rows.put_rows.Given as goal

abbrev pub invariant-loop-row : goal.invariant-loop-row
invariant-loop-row l = Shipping l.extent l.tables l.marks l.columns l.initial.message l.row l.at l.message
