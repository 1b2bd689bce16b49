use borrow.Author.Rules.{rules}
use Rattle.fields.specs.Numbers.{marked}
use Rattle.fields.proofs.HeadCodeLaws.{marked_second, marked_third}
use Rattle.fields.proofs.reader.is_marked.Goals as goal

pub returns-then-s-at-2 : goal.returns-then-s-at-2
returns-then-s-at-2 c = search (marked_third, rules)

pub returns-else-s-at-2 : goal.returns-else-s-at-2
unfolding marked
returns-else-s-at-2 c = search (marked_second, rules)
