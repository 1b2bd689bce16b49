use Rattle.entries.proofs.ClauseCodeLaws.{clause_no_kind, clause_selection, clause_join}
use borrow.Author.Rules.{rules}
use Rattle.entries.proofs.clauses.read_clause.Goals as goal

pub returns-in_err-kind : goal.returns-in_err-kind
returns-in_err-kind c = search (clause_no_kind, rules)

pub returns-then-kind-eq1 : goal.returns-then-kind-eq1
returns-then-kind-eq1 c = search (clause_selection, rules)

pub returns-else-kind-eq1 : goal.returns-else-kind-eq1
returns-else-kind-eq1 c = search (clause_join, rules)
