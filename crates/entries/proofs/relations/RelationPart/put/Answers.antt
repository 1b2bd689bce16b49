use native.Mathlib.Omega.{arith}
use Rattle.fields.proofs.PartLaws.{carried_both, then_anywhere}
use Rattle.entries.proofs.RelationCodeLaws.{relation_put}
use Rattle.entries.proofs.relations.RelationPart.put.Goals as goal

pub returns : goal.returns
returns c =
    carried_both _ _ _ _ 6 _
    (then_anywhere _ _ _ _ 2 _ (then_anywhere _ _ _ _ 1 _ c.put-p.ensures _ _ 1 _ c.put-q.ensures (omega arith)) _ _ 4 _ c.put-u.ensures (omega arith))
    _ _ _ _ c.put_all.ensures (omega arith) 54 _
    (λ x y. relation_put c.args.self _ _ _ _ _ _ _ c.first-columns.ensures (omega arith) x y)
