use Rattle.planner.proofs.ChoiceCodeLaws.{gain_is}
use borrow.Author.Rules.{rules}
use Rattle.planner.proofs.choice.gain.Goals as goal

pub returns : goal.returns
returns c = search (gain_is, rules)
