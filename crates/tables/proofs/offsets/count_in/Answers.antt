use Rattle.tables.proofs.OffsetCodeLaws.{count_none, count_is}
use borrow.Author.Rules.{rules}
use Rattle.tables.proofs.offsets.count_in.Goals as goal

pub returns-then-in_use-i : goal.returns-then-in_use-i
returns-then-in_use-i c = search (count_none, rules)

pub returns : goal.returns
returns c = search (count_is, rules)
