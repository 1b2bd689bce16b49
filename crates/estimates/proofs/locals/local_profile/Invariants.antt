use Rattle.estimates.proofs.LocalCodeLaws.{Localizing}
use Rattle.estimates.proofs.locals.local_profile.Given as goal

abbrev pub invariant-loop-relation : goal.invariant-loop-relation
invariant-loop-relation l = Localizing l.envelope l.end l.relation l.now
