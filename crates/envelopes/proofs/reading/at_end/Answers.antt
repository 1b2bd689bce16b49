use borrow.Author.Rules.{rules}
use Rattle.envelopes.proofs.ReadingLaws.{end_left, end_bare, end_taken}
use Rattle.envelopes.proofs.reading.at_end.Goals as goal

pub returns-then-at-s : goal.returns-then-at-s
returns-then-at-s c = search (end_left, rules)

pub returns-in-Some : goal.returns-in-Some
returns-in-Some c = search (end_bare, rules)

pub returns-in-None : goal.returns-in-None
returns-in-None c = search (end_taken, rules)
