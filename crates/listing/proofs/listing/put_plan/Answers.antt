use Rattle.listing.proofs.ListingCodeLaws.{plan_put}
use borrow.Author.Rules.{rules}
use Rattle.listing.proofs.listing.put_plan.Goals as goal

pub returns : goal.returns
returns c = search (plan_put, rules)
