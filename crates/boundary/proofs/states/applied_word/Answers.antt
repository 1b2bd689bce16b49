use Rattle.boundary.proofs.StateLaws.{applied_own, applied_behind}
use borrow.Author.Rules.{rules}
use Rattle.boundary.proofs.states.applied_word.Goals as goal

pub returns-then-relation-relations : goal.returns-then-relation-relations
returns-then-relation-relations c = search (applied_own, rules)

pub returns-else-relation-relations : goal.returns-else-relation-relations
returns-else-relation-relations c = search (applied_behind, rules)
