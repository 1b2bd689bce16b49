use Rattle.listing.proofs.ListingCodeLaws.{listing_taken, listing_refused}
use borrow.Author.Rules.{rules}
use Rattle.listing.proofs.listing.put_listing.Goals as goal

pub returns-in-Ok : goal.returns-in-Ok
returns-in-Ok c = search (listing_taken, rules)

pub returns-in-Err : goal.returns-in-Err
returns-in-Err c = search (listing_refused, rules)
