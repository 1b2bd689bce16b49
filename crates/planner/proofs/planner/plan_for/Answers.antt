use mathlib.Core.Path.{refl, ◌∙◌}
use Rattle.planner.proofs.PlannerCodeLaws.{planned_acceptable, plan_is}
use Rattle.planner.proofs.SiteCodeLaws.{local_sited}
use Rattle.planner.proofs.planner.plan_for.Goals as goal

pub site_for-home-requires : goal.site_for-home-requires
site_for-home-requires c = local_sited c.args.costs c.args.envelope c.args.local c.requires

pub assembly_at-alone-requires : goal.assembly_at-alone-requires
assembly_at-alone-requires c = (local_sited c.args.costs c.args.envelope c.args.local c.requires).0

pub told-requires : goal.told-requires
told-requires c =
    (c.requires, planned_acceptable c.args.costs c.args.envelope c.args.local c.requires _ c.planned-program.ensures)

pub returns : goal.returns
returns c =
    c.told.ensures
    ∙ plan_is c.args.costs c.args.envelope c.args.local c.requires _ c.planned-program.ensures _ refl _ _ c.site_for-home.ensures
    c.assembly_at-alone.ensures
