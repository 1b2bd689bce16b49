use Rattle.estimates.specs.declared.lines.Line.{Line}
use mathlib.Core.Path.{ap}
use Rattle.estimates.proofs.SpendingCodeLaws.{cost_few, rows_low, counts_low, step_few}
use Rattle.estimates.proofs.EstimatorCodeLaws.{estimating_start, estimating_more, estimated_through, now_bounded, line_ready, assembly_small}
use borrow.Author.Rules.{rules}
use native.Mathlib.Omega.{arith}
use Rattle.estimates.proofs.estimator.estimated.Goals as goal

pub loop-i-init : goal.loop-i-init
loop-i-init c = search (estimating_start, rules)

pub line_of-line-requires : goal.line_of-line-requires
line_of-line-requires c =
    line_ready c.args.costs c.args.envelope c.args.local c.requires.0 _ _ _ _ _ c.loop-i.invariant c.loop-i-test.true

pub overflow_add-spent : goal.overflow_add-spent
overflow_add-spent c =
    omega (
      arith,
      cost_few c.args.costs c.args.envelope c.args.local c.requires.0 _ _ _ _ c.loop-i.invariant.spending
          c.loop-i-test.true _ (ap (λ (x : Line). x.cost) c.line_of-line.ensures),
    )

pub after_step-now-requires : goal.after_step-now-requires
after_step-now-requires c = search (rows_low, counts_low, step_few, rules)

pub loop-i-preserved : goal.loop-i-preserved
loop-i-preserved c = search (estimating_more, rules)

pub assembly_at-assembly-requires : goal.assembly_at-assembly-requires
assembly_at-assembly-requires c =
    now_bounded c.args.costs c.args.envelope c.args.local c.requires.0 _ _ _ _ _ c.loop-i.invariant

pub overflow_add-result : goal.overflow_add-result
overflow_add-result c =
    omega (
      arith,
      assembly_small c.args.costs c.args.envelope c.args.local c.requires.0 _ _ _ _ _ c.loop-i.invariant _ _
          c.assembly_at-assembly.ensures,
    )

pub returns : goal.returns
returns c = search (estimated_through, rules)
