use Rattle.listing.proofs.ListingCodeLaws.{refusal_put}
use borrow.Author.Rules.{rules}
use Rattle.listing.proofs.listing.put_refusal.Goals as goal

pub returns : goal.returns
returns c = search (refusal_put, rules)
