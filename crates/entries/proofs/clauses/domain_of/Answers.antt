use borrow.Author.Rules.{rules}
use Rattle.entries.proofs.ClauseCodeLaws.{domain_is}
use Rattle.entries.proofs.clauses.domain_of.Goals as goal

pub returns : goal.returns
returns c = search (domain_is, rules)
