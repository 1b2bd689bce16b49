use Rattle.ends.proofs.EndLaws.{sound_refused, sound_over, sound_good}
use borrow.Author.Rules.{rules}
use Rattle.ends.proofs.ends.sound_end.Goals as goal

pub returns-in_err-papers : goal.returns-in_err-papers
returns-in_err-papers c = search (sound_refused, rules)

pub returns-then-is_over_applied : goal.returns-then-is_over_applied
returns-then-is_over_applied c = rw c.at.ensures (search (sound_over, rules))

pub returns : goal.returns
returns c = search (sound_good, rules)
