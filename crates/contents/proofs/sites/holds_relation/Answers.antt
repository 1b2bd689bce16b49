use Rattle.contents.proofs.SiteLaws.{site_found, site_passed, site_none}
use borrow.Author.Rules.{rules}
use Rattle.contents.proofs.sites.holds_relation.Goals as goal

pub returns-then-is_at : goal.returns-then-is_at
returns-then-is_at c = search (site_found, rules)

pub loop-i-preserved : goal.loop-i-preserved
loop-i-preserved c = search (site_passed, rules)

pub returns : goal.returns
returns c = search (site_none, rules)
