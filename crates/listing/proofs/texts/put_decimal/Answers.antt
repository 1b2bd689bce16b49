use Rattle.listing.proofs.TextLaws.{decimal_put}
use borrow.Author.Rules.{rules}
use Rattle.listing.proofs.texts.put_decimal.Goals as goal

pub returns : goal.returns
returns c = search (decimal_put, rules)
