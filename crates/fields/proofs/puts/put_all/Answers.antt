use native.Mathlib.Omega.{arith}
use Rattle.fields.proofs.PartLaws.{landing_start, landing_more, landing_done}
use Rattle.fields.proofs.puts.put_all.Goals as goal

pub loop-part-init : goal.loop-part-init
loop-part-init g c = landing_start _ _ _ _ _ _ (omega arith)

pub loop-part-preserved : goal.loop-part-preserved
loop-part-preserved g c =
    landing_more _ _ _ _ _ _ _ _ c.loop-part.invariant c.loop-part-test.true (omega arith) c.part-item.result c.part-item.is _ _ c.put-end.ensures

pub returns : goal.returns
returns g c = landing_done _ _ _ _ _ _ _ _ c.loop-part.invariant c.loop-part-test.false
