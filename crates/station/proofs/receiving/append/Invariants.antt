use Prim.Native.Nat.{◌+◌}
use lib.ListN.{length}
use Rattle.ground.proofs.PuttingLaws.{Copying}
use Rattle.station.proofs.receiving.append.Given as goal

abbrev pub invariant-loop-i : goal.invariant-loop-i
invariant-loop-i l = Copying l.message l.initial.store l.used (length l.message) l.i (l.used + l.i) l.store
