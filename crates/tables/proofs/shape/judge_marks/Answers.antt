use borrow.Author.Rules.{rules}
use Rattle.tables.proofs.JudgedLaws.{judge_shapeless, judge_short, judge_whole}
use Rattle.tables.proofs.shape.judge_marks.Goals as goal

pub returns-then-not-is_shaped : goal.returns-then-not-is_shaped
returns-then-not-is_shaped c = rw c.at.ensures (search (judge_shapeless, rules))

pub returns-then-n-row_count : goal.returns-then-n-row_count
returns-then-n-row_count c = rw c.at-then-n-row_count.ensures (search (judge_short, rules))

pub returns : goal.returns
returns c = search (judge_whole, rules)
