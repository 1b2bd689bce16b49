use Rattle.tables.proofs.OffsetCodeLaws.{Adding}
use Prim.Native.Nat.{◌≤◌}
use Rattle.tables.proofs.offsets.extent_of.Given as goal

abbrev pub invariant-loop-i : goal.invariant-loop-i
invariant-loop-i l = (l.i ≤ l.relation) × Adding l.envelope l.tables l.i l.word l.mark
