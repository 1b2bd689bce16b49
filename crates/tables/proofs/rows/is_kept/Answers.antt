use Rattle.tables.proofs.RowCodeLaws.{mark_no_row, mark_before, mark_found}
use borrow.Author.Rules.{rules}
use Rattle.tables.proofs.rows.is_kept.Goals as goal

pub returns-then-extent-row : goal.returns-then-extent-row
returns-then-extent-row c = search (mark_no_row, rules)

pub returns-in_default : goal.returns-in_default
returns-in_default c = search (mark_before, rules)

pub returns : goal.returns
returns c = search (mark_found, rules)
