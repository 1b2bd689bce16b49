use Rattle.std.proofs.Common.{◌≡◌, arith}
use Prim.Native.Nat.{◌+◌}
use Rattle.ground.proofs.PuttingLaws.{copying_more}
use Rattle.station.proofs.receiving.append.Goals as goal

pub loop-i-preserved : goal.loop-i-preserved
loop-i-preserved c =
    let next : c.args.used + c.loop-i.i + 1 ≡ c.args.used + (c.loop-i.i + 1) = omega arith in
    rw next at (copying_more _ _ _ _ _ _ _ c.loop-i.invariant 0 c.loop-i-test.true)
