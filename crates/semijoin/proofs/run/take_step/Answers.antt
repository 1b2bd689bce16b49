use mathlib.Core.Path.{refl}
use native.Mathlib.Omega.{arith}
use borrow.Author.Rules.{rules}
use Rattle.semijoin.proofs.RunCodeLaws.{step_refused, step_fits, step_count_lem, step_rises, step_taken}
use Rattle.semijoin.proofs.run.take_step.Goals as goal

pub slice_bounds-values-end : goal.slice_bounds-values-end
slice_bounds-values-end c =
    omega (
      arith,
      step_fits c.args.envelope c.args.tables.now c.args.marks.now _ 4096 (omega arith) c.requires.0 c.requires.1 _
          c.values_into-gathered.ensures.0 (search rules) _ c.values_into-gathered.ensures.1 _ c.in-Ok.is,
    )

pub slice_bounds-reduce-end : goal.slice_bounds-reduce-end
slice_bounds-reduce-end c =
    step_count_lem c.args.envelope c.args.tables.now c.args.marks.now _ 4096 (omega arith) c.requires.0 c.requires.1 _
    c.values_into-gathered.ensures.0 (search rules) _ c.values_into-gathered.ensures.1 _ c.in-Ok.is

pub reduce-requires : goal.reduce-requires
reduce-requires c = (
  c.requires.0,
  c.requires.1,
  search rules,
  step_rises c.args.envelope c.args.tables.now c.args.marks.now _ 4096 (omega arith) c.requires.0 c.requires.1 _
      c.values_into-gathered.ensures.0 (search rules) _ c.values_into-gathered.ensures.1 _ c.in-Ok.is,
)

pub returns-in-Ok : goal.returns-in-Ok
returns-in-Ok c =
    step_taken c.args.envelope c.args.tables.now c.args.marks.now _ 4096 (omega arith) c.requires.0 c.requires.1 _
    c.values_into-gathered.ensures.0 (search rules) _ c.values_into-gathered.ensures.1 _ c.in-Ok.is c.args.step refl _
    c.reduce.ensures.1

pub returns-in_default : goal.returns-in_default
returns-in_default c =
    absurd (step_refused c.args.envelope c.args.tables.now c.args.marks.now _ 4096 (omega arith) c.requires.0 c.requires.1 _
    c.values_into-gathered.ensures.0 (search rules) _ c.in_default.is)
