use Rattle.contents.proofs.KeptCodeLaws.{bare_found, bare_passed, bare_none}
use borrow.Author.Rules.{rules}
use Rattle.contents.proofs.kept.lowest_bare.Goals as goal

pub returns-then-kept_columns-eq0 : goal.returns-then-kept_columns-eq0
returns-then-kept_columns-eq0 c = search (bare_found, rules)

pub loop-relation-preserved : goal.loop-relation-preserved
loop-relation-preserved c = search (bare_passed, rules)

pub returns : goal.returns
returns c = search (bare_none, rules)
