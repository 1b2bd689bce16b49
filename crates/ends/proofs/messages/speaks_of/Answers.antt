use Rattle.ends.proofs.MessageCodeLaws.{speaks_step, speaks_between, speaks_rows, speaks_past}
use borrow.Author.Rules.{rules}
use Rattle.ends.proofs.messages.speaks_of.Goals as goal

pub returns-then-second-steps : goal.returns-then-second-steps
returns-then-second-steps c = search (speaks_step, rules)

pub returns-then-second-lt-ROWS_FROM : goal.returns-then-second-lt-ROWS_FROM
returns-then-second-lt-ROWS_FROM c = search (speaks_between, rules)

pub returns-then-relation-relations : goal.returns-then-relation-relations
returns-then-relation-relations c = search (speaks_rows, rules)

pub returns : goal.returns
returns c = search (speaks_past, rules)
