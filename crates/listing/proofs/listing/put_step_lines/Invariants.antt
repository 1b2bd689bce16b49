use Rattle.ground.proofs.WritingLaws.{Writing}
use Rattle.listing.specs.Listing.{step_line}
use lib.ListN.{length}
use Rattle.listing.proofs.listing.put_step_lines.Given as goal

abbrev pub invariant-loop-line : goal.invariant-loop-line
invariant-loop-line l = Writing step_line 126 l.lines l.initial.out l.fn.at (length l.lines) l.line-index l.p l.out
