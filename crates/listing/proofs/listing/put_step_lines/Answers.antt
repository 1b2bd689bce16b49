use Rattle.ground.proofs.WritingLaws.{writing_more}
use Rattle.listing.proofs.ListingCodeLaws.{lines_put}
use borrow.Author.Rules.{rules}
use Rattle.listing.proofs.listing.put_step_lines.Goals as goal

pub loop-line-preserved : goal.loop-line-preserved
loop-line-preserved c = search (writing_more, rules)

pub returns : goal.returns
returns c = search (lines_put, rules)
