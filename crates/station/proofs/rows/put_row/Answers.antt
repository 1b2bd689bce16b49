use Rattle.std.proofs.Common.{arith}
use Rattle.station.proofs.RowCodeLaws.{row_more}
use Rattle.station.proofs.rows.put_row.Goals as goal

pub loop-i-preserved : goal.loop-i-preserved
loop-i-preserved c = row_more _ _ _ _ _ _ c.loop-i.invariant (omega arith) _ c.word_at.ensures
