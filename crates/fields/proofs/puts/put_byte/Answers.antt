use native.Mathlib.Omega.{arith}
use mathlib.Core.Path.{sym}
use lib.Seq.{set_out}
use Rattle.fields.proofs.puts.put_byte.Goals as goal

pub returns-else-at-out : goal.returns-else-at-out
returns-else-at-out c = sym (set_out _ _ _ (omega arith))
