use lib.ListN.{length}
use Rattle.ground.proofs.WritingLaws.{Writing}
use Rattle.boundary.specs.Planning.{line_words}
use Rattle.boundary.proofs.planning.put_lines.Given as goal

abbrev pub invariant-loop-line : goal.invariant-loop-line
invariant-loop-line l = Writing line_words 4 l.lines l.initial.out 0 (length l.lines) l.line-index l.p l.out
