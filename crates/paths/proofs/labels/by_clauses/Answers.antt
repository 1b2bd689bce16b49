use borrow.Author.Rules.{rules}
use native.Mathlib.Omega.{arith}
use Rattle.ground.proofs.MadeLaws.{made_is}
use Rattle.entries.specs.Clauses.{no_clause}
use Rattle.paths.proofs.LabelCodeLaws.{labelling_start, labelling_more}
use Rattle.paths.proofs.labels.by_clauses.Goals as goal

pub loop-i-init : goal.loop-i-init
loop-i-init c = let a = c.args in
    labelling_start a.envelope.now a.clauses.now _ _ (omega arith)
    (made_is _ (λ k. k) _ 76 (λ i y q h k. search rules) _ c.from_fn-labels.ensures.items)

pub loop-i-preserved : goal.loop-i-preserved
loop-i-preserved c = let a = c.args in
    labelling_more a.envelope.now a.clauses.now _ _ no_clause c.loop-i.invariant c.loop-i-test.true (omega arith) _ (search rules)
