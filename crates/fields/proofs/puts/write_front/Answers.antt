use native.Mathlib.Omega.{arith}
use Rattle.fields.proofs.PutLaws.{front_short, front_whole}
use Rattle.fields.proofs.puts.write_front.Goals as goal

pub returns-then-out-bytes : goal.returns-then-out-bytes
returns-then-out-bytes c = rw c.at.ensures (front_short _ _ (omega arith))

pub returns : goal.returns
returns c = rw c.copy_from_slice.ensures.after (front_whole c.args.bytes.now c.args.out.now (omega arith))
