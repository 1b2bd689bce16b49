use Rattle.estimates.proofs.DivisionCodeLaws.{over_nothing, over_number}
use borrow.Author.Rules.{rules}
use Rattle.estimates.proofs.division.over.Goals as goal

pub returns-then-b-eq0 : goal.returns-then-b-eq0
returns-then-b-eq0 c = search (over_nothing, rules)

pub returns-else-b-eq0 : goal.returns-else-b-eq0
returns-else-b-eq0 c = search (over_number, rules)
