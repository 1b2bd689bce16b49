use borrow.Author.Rules.{rules}
use borrow.Author.Tests.{leb-false, leb-true}
use Rattle.fields.proofs.HeadCodeLaws.{mark_short, mark_wrong, mark_right}
use Rattle.fields.proofs.reader.Reader.mark.Goals as goal

pub returns-then-not-reaches : goal.returns-then-not-reaches
returns-then-not-reaches c = search (mark_short, leb-false, rules)

pub returns-then-not-is_marked : goal.returns-then-not-is_marked
returns-then-not-is_marked c = search (mark_wrong, leb-true, rules)

pub returns : goal.returns
returns c = search (mark_right, leb-true, rules)
