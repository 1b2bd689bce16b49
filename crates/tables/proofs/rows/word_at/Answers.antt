use Rattle.tables.proofs.RowCodeLaws.{word_beyond, word_before, word_found}
use borrow.Author.Rules.{rules}
use Rattle.tables.proofs.rows.word_at.Goals as goal

pub returns-then-extent-row : goal.returns-then-extent-row
returns-then-extent-row c = word_beyond _ _ _ _ c.then-extent-row.either

pub returns-in_default : goal.returns-in_default
returns-in_default c = search (word_before, rules)

pub returns : goal.returns
returns c = search (word_found, rules)
