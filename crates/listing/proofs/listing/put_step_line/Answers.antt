use Rattle.listing.proofs.ListingCodeLaws.{line_put}
use borrow.Author.Rules.{rules}
use Rattle.listing.proofs.listing.put_step_line.Goals as goal

pub returns : goal.returns
returns c = search (line_put, rules)
