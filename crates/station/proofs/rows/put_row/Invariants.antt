use Rattle.std.proofs.Common.{◌+◌, map, length}
use Rattle.tables.specs.Rows.{word_over}
use Rattle.ground.proofs.PuttingLaws.{Copying}
use Rattle.station.proofs.rows.put_row.Given as goal

abbrev pub invariant-loop-i : goal.invariant-loop-i
invariant-loop-i l =
    Copying (map (word_over l.extent l.tables l.row) l.columns) l.initial.message l.at (length l.columns) l.i (l.at + l.i) l.message
