use Rattle.listing.proofs.TextLaws.{digits_one, digits_more}
use borrow.Author.Rules.{rules}
use Rattle.listing.proofs.texts.+put_digits.Goals as goal

pub returns-then-n-lt10 : goal.returns-then-n-lt10
returns-then-n-lt10 t c = search (digits_one, rules)

pub returns : goal.returns
returns t c = search (digits_more, rules)
