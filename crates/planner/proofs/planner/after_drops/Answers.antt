use Rattle.planner.proofs.PlannerCodeLaws.{greedy_sited, greedy_acceptable, after_drops_is}
use Rattle.planner.proofs.planner.after_drops.Goals as goal

pub site_for-site-requires : goal.site_for-site-requires
site_for-site-requires c = greedy_sited c.args.costs c.args.envelope c.args.local c.requires _ c.greedy_steps-greedy.ensures

pub drops-requires : goal.drops-requires
drops-requires c = (
  c.requires,
  greedy_acceptable c.args.costs c.args.envelope c.args.local c.requires _ c.greedy_steps-greedy.ensures _
      c.site_for-site.ensures _ c.program_of-program.ensures,
)

pub returns : goal.returns
returns c =
    after_drops_is c.args.costs c.args.envelope c.args.local c.requires _ c.greedy_steps-greedy.ensures _ c.site_for-site.ensures _
    c.program_of-program.ensures _ c.drops.ensures
