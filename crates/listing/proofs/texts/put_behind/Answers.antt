use Rattle.listing.proofs.TextLaws.{both_put}
use borrow.Author.Rules.{rules}
use Rattle.listing.proofs.texts.put_behind.Goals as goal

pub returns : goal.returns
returns c = search (both_put, rules)
