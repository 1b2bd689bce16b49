use Rattle.estimates.proofs.LocalCodeLaws.{Applying}
use Rattle.estimates.proofs.locals.after_selections.Given as goal

abbrev pub invariant-loop-selection : goal.invariant-loop-selection
invariant-loop-selection l = Applying l.initial.now l.relation l.all l.selection-index l.now
