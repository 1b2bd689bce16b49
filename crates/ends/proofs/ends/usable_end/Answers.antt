use Rattle.ends.proofs.EndLaws.{usable_refused, usable_marks, usable_good}
use borrow.Author.Rules.{rules}
use Rattle.ends.proofs.ends.usable_end.Goals as goal

pub returns-in_err-papers : goal.returns-in_err-papers
returns-in_err-papers c = search (usable_refused, rules)

pub returns-in_err-judge_marks : goal.returns-in_err-judge_marks
returns-in_err-judge_marks c = search (usable_marks, rules)

pub returns : goal.returns
returns c = search (usable_good, rules)
