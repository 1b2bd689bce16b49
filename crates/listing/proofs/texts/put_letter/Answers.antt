use Rattle.listing.proofs.TextLaws.{letter_put}
use borrow.Author.Rules.{rules}
use Rattle.listing.proofs.texts.put_letter.Goals as goal

pub returns : goal.returns
returns c = search (letter_put, rules)
