use native.Mathlib.Omega.{arith}
use Rattle.fields.proofs.PartLaws.{then_anywhere}
use Rattle.fields.proofs.puts.put_list.Goals as goal

pub returns : goal.returns
returns g c = then_anywhere _ _ _ _ 1 _ c.put-next.ensures _ _ _ _ c.put_all.ensures (omega arith)
