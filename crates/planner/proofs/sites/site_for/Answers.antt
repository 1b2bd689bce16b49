use Rattle.planner.proofs.SiteCodeLaws.{siting_start, siting_take, siting_stay, siting_done}
use borrow.Author.Rules.{rules}
use Rattle.planner.proofs.sites.site_for.Goals as goal
use Rattle.planner.proofs.sites.site_for.Goals.{else-cost-least, then-cost-least}

pub loop-site-init : goal.loop-site-init
loop-site-init c = search (siting_start, rules)

pub loop-site-preserved : goal.loop-site-preserved
loop-site-preserved c =
    elim c.if-cost-least.branch [
      | then-cost-least w ↦ search (siting_take, rules)
      | else-cost-least w ↦ search (siting_stay, rules)
    ]

pub returns : goal.returns
returns c = search (siting_done, rules)
