use Rattle.tables.specs.Rows.{kept_over}
use Rattle.ground.proofs.CountingLaws.{Counting}
use Rattle.station.proofs.rows.count_kept.Given as goal

abbrev pub invariant-loop-row : goal.invariant-loop-row
invariant-loop-row l = Counting (kept_over l.extent l.marks) l.extent.rows l.row l.n
