use Rattle.planner.proofs.SiteCodeLaws.{Siting}
use Rattle.planner.proofs.sites.site_for.Given as goal

abbrev pub invariant-loop-site : goal.invariant-loop-site
invariant-loop-site l = Siting l.costs l.envelope l.profile l.site l.best l.least
