use Rattle.boundary.proofs.PlanningCodeLaws.{pair_put}
use borrow.Author.Rules.{rules}
use Rattle.boundary.proofs.planning.put_pair.Goals as goal

pub returns : goal.returns
returns c = search (pair_put, rules)
