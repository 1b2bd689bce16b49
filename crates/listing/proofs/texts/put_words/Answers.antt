use Rattle.listing.proofs.TextLaws.{spelling_more}
use borrow.Author.Rules.{rules}
use Rattle.listing.proofs.texts.put_words.Goals as goal

pub loop-i-preserved : goal.loop-i-preserved
loop-i-preserved c = search (spelling_more, rules)
