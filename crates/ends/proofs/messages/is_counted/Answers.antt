use Rattle.ends.proofs.MessageCodeLaws.{counted_short, counted_over, counted_whole}
use borrow.Author.Rules.{rules}
use Rattle.ends.proofs.messages.is_counted.Goals as goal

pub returns-then-message-lt-FRONT : goal.returns-then-message-lt-FRONT
returns-then-message-lt-FRONT c = search (counted_short, rules)

pub returns-then-count-gt4096 : goal.returns-then-count-gt4096
returns-then-count-gt4096 c = search (counted_over, rules)

pub returns : goal.returns
returns c = search (counted_whole, rules)
