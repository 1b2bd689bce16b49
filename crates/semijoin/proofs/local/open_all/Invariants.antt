use mathlib.Core.Bool.{false}
use lib.ListN.{get_or}
use Rattle.semijoin.proofs.LocalCodeLaws.{OpeningAll}
use Rattle.semijoin.proofs.local.open_all.Given as goal

abbrev pub invariant-loop-relation : goal.invariant-loop-relation
invariant-loop-relation l = OpeningAll l.envelope l.tables (λ r. get_or l.here r false) l.initial.marks l.end l.relation l.marks
