use mathlib.Core.Path.{sym, ◌∙◌}
use Rattle.planner.proofs.ChoiceCodeLaws.{planning_start, planning_few, planning_ready, planning_done, planning_room, planning_step, planning_less, planning_more}
use borrow.Author.Rules.{rules}
use Rattle.planner.proofs.choice.greedy_steps.Goals as goal

pub loop-step-init : goal.loop-step-init
loop-step-init c = search (planning_start, rules)

pub first_of_greatest-requires : goal.first_of_greatest-requires
first_of_greatest-requires c = let a = c.args in
    planning_ready a.costs a.envelope a.local c.requires _ _ _ c.loop-step.invariant _ c.listed.ensures

pub push-requires : goal.push-requires
push-requires c = let a = c.args in
    search (
      planning_room a.costs a.envelope a.local c.requires _ _ _ c.loop-step.invariant _ c.listed.ensures _
          (sym c.in-Some.is ∙ c.first_of_greatest.ensures),
      rules,
    )

pub without-unused-requires : goal.without-unused-requires
without-unused-requires c = search (planning_few, rules)

pub after_step-now-requires : goal.after_step-now-requires
after_step-now-requires c = let a = c.args in
    planning_step a.costs a.envelope a.local c.requires _ _ _ c.loop-step.invariant _ c.listed.ensures _
    (sym c.in-Some.is ∙ c.first_of_greatest.ensures)

pub loop-step-smaller : goal.loop-step-smaller
loop-step-smaller c = let a = c.args in
    planning_less a.costs a.envelope a.local c.requires _ _ _ c.loop-step.invariant _ c.listed.ensures _
    (sym c.in-Some.is ∙ c.first_of_greatest.ensures) _ c.listed-in-Some.ensures _ c.without-unused.ensures

pub loop-step-preserved : goal.loop-step-preserved
loop-step-preserved c = let a = c.args in
    planning_more a.costs a.envelope a.local c.requires _ _ _ c.loop-step.invariant _ c.listed.ensures _
    (sym c.in-Some.is ∙ c.first_of_greatest.ensures) _ c.listed-in-Some.ensures _ c.without-unused.ensures _
    c.after_step-now.ensures _ c.push.ensures

pub returns : goal.returns
returns c = let a = c.args in
    planning_done a.costs a.envelope a.local c.requires _ _ _ c.loop-step.invariant _ c.listed.ensures
    (sym c.in_default.is ∙ c.first_of_greatest.ensures)
