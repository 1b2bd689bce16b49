use Rattle.listing.proofs.ListingCodeLaws.{listed}
use Rattle.listing.proofs.listing.list_paper.Goals as goal

pub returns : goal.returns
returns c = listed _ _ _ _ _ _ c.plan_paper-plan.ensures c.numbered.ensures c.put_listing.ensures
