use Rattle.estimates.proofs.ProfileCodeLaws.{left_other, left_same, left_short}
use borrow.Author.Rules.{rules}
use Rattle.estimates.proofs.profiles.Profile.count_left.Goals as goal

pub returns-then-k-place : goal.returns-then-k-place
returns-then-k-place c = search (left_other, rules)

pub returns-then-k-place-2 : goal.returns-then-k-place-2
returns-then-k-place-2 c = search (left_same, rules)

pub returns : goal.returns
returns c = search (left_short, rules)
