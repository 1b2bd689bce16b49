use Rattle.planner.proofs.DropCodeLaws.{total_before, drops_done}
use borrow.Author.Rules.{rules}
use Rattle.planner.proofs.drops.drops.Goals as goal

pub dropped-requires : goal.dropped-requires
dropped-requires c = search (total_before, rules)

pub returns : goal.returns
returns c = search (drops_done, rules)
