use mathlib.Core.Path.{◌≡◌, ap, ◌∙◌}
use Prim.Native.Nat.{◌+◌}
use borrow.Author.Rules.{rules}
use native.Mathlib.Omega.{arith}
use Rattle.std.proofs.lemmas.Fn.{says_at}
use Rattle.planner.proofs.FewLaws.{few_count, passing_start, passing_yes, passing_no, passing_done}
use Rattle.planner.proofs.few.Few.sifted.Goals as goal
use Rattle.planner.proofs.few.Few.sifted.Goals.{then-passes, else-passes}

pub loop-value-init : goal.loop-value-init
loop-value-init g c =
    (omega (arith, few_count _ _ _ c.empty-few.ensures), λ p t. passing_start _ p _ _ c.empty-few.ensures)

pub push-requires : goal.push-requires
push-requires g c = (search rules, omega (arith, c.loop-value.invariant.0))

pub loop-value-preserved : goal.loop-value-preserved
loop-value-preserved g c =
    elim c.if-passes.branch [
      | then-passes w ↦ (
        let e : c.if-passes.few.count ≡ c.loop-value.few.count + 1 = ap (λ x. x.count) (w.few-is ∙ w.push.ensures) in
            omega (arith, c.loop-value.invariant.0),
        λ p t. passing_yes _ p _ _ _ (c.loop-value.invariant.1 p t) c.loop-value-test.true c.requires.0 _ c.value-item.is
            (t _ _ (says_at g.F.Fn c.passes.ensures w.if-passes.true)) _ (w.few-is ∙ w.push.ensures),
      )
      | else-passes w ↦ (
        let e : c.if-passes.few.count ≡ c.loop-value.few.count = ap (λ x. x.count) w.few-is in
            omega (arith, c.loop-value.invariant.0),
        λ p t. passing_no _ p _ _ _ (c.loop-value.invariant.1 p t) c.loop-value-test.true c.requires.0 _ c.value-item.is
            (t _ _ (says_at g.F.Fn c.passes.ensures w.if-passes.false)) _ w.few-is,
      )
    ]

pub returns : goal.returns
returns g c = λ p t. passing_done _ p _ _ _ (c.loop-value.invariant.1 p t) c.loop-value-test.false
