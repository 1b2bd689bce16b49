use native.Mathlib.Omega.{arith}
use Rattle.fields.proofs.PartLaws.{carried, then_anywhere}
use Rattle.entries.proofs.ClauseCodeLaws.{selection_put, join_put}
use Rattle.entries.proofs.clauses.ClausePart.put.Goals as goal

pub returns-in-Selection : goal.returns-in-Selection
returns-in-Selection c =
    carried _ _ _ _ 7 _
    (then_anywhere _ _ _ _ 3 _ (then_anywhere _ _ _ _ 1 _ c.put-p.ensures _ _ 2 _ c.put-q.ensures (omega arith)) _ _ 4 _ c.put.ensures (omega arith))
    7 _ (λ x. selection_put c.args.self _ _ _ _ _ _ c.in-Selection.is x)

pub returns-in-Join : goal.returns-in-Join
returns-in-Join c =
    carried _ _ _ _ 5 _
    (then_anywhere _ _ _ _ 3 _ (then_anywhere _ _ _ _ 1 _ c.put-p-in-Join.ensures _ _ 2 _ c.put-q-in-Join.ensures (omega arith)) _ _ 2 _ c.put-in-Join.ensures (omega arith))
    7 _ (λ x. join_put c.args.self _ _ _ _ _ _ c.in-Join.is x)
