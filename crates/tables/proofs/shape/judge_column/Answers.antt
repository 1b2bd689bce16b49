use borrow.Author.Rules.{rules}
use Rattle.tables.proofs.JudgedLaws.{judge_before, judge_nowhere, judge_column}
use Rattle.tables.proofs.shape.judge_column.Goals as goal

pub returns-in_err-judge_marks : goal.returns-in_err-judge_marks
returns-in_err-judge_marks c = search (judge_before, rules)

pub returns-then-not-is_place : goal.returns-then-not-is_place
returns-then-not-is_place c = rw c.at.ensures (search (judge_nowhere, c.in_ok-judge_marks.was, rules))

pub returns : goal.returns
returns c = search (judge_column, c.in_ok-judge_marks.was, rules)
