use Rattle.listing.proofs.TextLaws.{Spelling}
use Rattle.listing.proofs.texts.put_words.Given as goal

abbrev pub invariant-loop-i : goal.invariant-loop-i
invariant-loop-i l = Spelling l.words l.initial.out l.at l.i l.out
