use Rattle.planner.proofs.PlannerCodeLaws.{after_drops_acceptable, planned_below, planned_home}
use Rattle.planner.proofs.planner.planned.Goals as goal

pub estimated-estimate-requires : goal.estimated-estimate-requires
estimated-estimate-requires c = (
  c.requires.0,
  after_drops_acceptable c.args.costs c.args.envelope c.args.local c.requires.0 _ _ c.requires.1 c.requires.2 _
      c.after_drops-program.ensures,
)

pub returns-then-estimate-alone : goal.returns-then-estimate-alone
returns-then-estimate-alone c =
    planned_below c.args.costs c.args.envelope c.args.local c.requires.0 _ _ c.requires.1 c.requires.2 _
    c.after_drops-program.ensures _ c.estimated-estimate.ensures c.if-estimate-alone.true

pub returns : goal.returns
returns c =
    planned_home c.args.costs c.args.envelope c.args.local c.requires.0 _ _ c.requires.1 c.requires.2 _
    c.after_drops-program.ensures _ c.estimated-estimate.ensures c.if-estimate-alone.false _ c.no_step.ensures
