use Rattle.listing.proofs.ListingCodeLaws.{step_put}
use borrow.Author.Rules.{rules}
use Rattle.listing.proofs.listing.put_step.Goals as goal

pub returns : goal.returns
returns c = search (step_put, rules)
