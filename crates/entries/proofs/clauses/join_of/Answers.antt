use Rattle.entries.proofs.ClauseCodeLaws.{joined_two, joined_same, joined_is}
use borrow.Author.Rules.{rules}
use Rattle.entries.proofs.clauses.join_of.Goals as goal

pub returns-then-domain_of : goal.returns-then-domain_of
returns-then-domain_of c = search (joined_two, rules)

pub returns-then-same_place : goal.returns-then-same_place
returns-then-same_place c = search (joined_same, rules)

pub returns : goal.returns
returns c = search (joined_is, rules)
