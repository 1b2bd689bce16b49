use Rattle.boundary.proofs.PlanningCodeLaws.{two_put}
use borrow.Author.Rules.{rules}
use Rattle.boundary.proofs.planning.put_two.Goals as goal

pub returns : goal.returns
returns c = search (two_put, rules)
