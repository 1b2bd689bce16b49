use Rattle.semijoin.specs.Local.{opening_mark}
use Rattle.semijoin.proofs.LocalCodeLaws.{Opening}
use Rattle.semijoin.proofs.local.Local.open_rows.Given as goal

abbrev pub invariant-loop-row : goal.invariant-loop-row
invariant-loop-row l = Opening l.extent (opening_mark l.self.here l.self.selections.now l.self.equalities.now) l.tables l.initial.marks l.row l.marks
