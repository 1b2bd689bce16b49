use native.Mathlib.Omega.{arith}
use Rattle.fields.proofs.PartLaws.{four_put, ended}
use Rattle.fields.proofs.puts.U32Part.put.Goals as goal

pub returns : goal.returns
returns c = ended _ _ _ _ _ _ _ (four_put _ _ _ _ c.put_number.ensures) (omega arith)
