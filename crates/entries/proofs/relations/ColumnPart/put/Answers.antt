use native.Mathlib.Omega.{arith}
use Rattle.fields.proofs.PartLaws.{then_anywhere}
use Rattle.entries.specs.Relations.{column_bytes}
use Rattle.entries.proofs.relations.ColumnPart.put.Goals as goal

pub returns : goal.returns
unfolding column_bytes
returns c =
    then_anywhere _ _ _ _ 2 _ (then_anywhere _ _ _ _ 1 _ c.put-p.ensures _ _ 1 _ c.put-q.ensures (omega arith)) _ _ 4 _ c.put.ensures (omega arith)
