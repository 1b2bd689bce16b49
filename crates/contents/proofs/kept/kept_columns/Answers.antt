use Rattle.contents.proofs.PartLaws.{columns_few}
use Rattle.contents.proofs.KeptCodeLaws.{keeping_start, keeping_room, keeping_yes, keeping_no, keeping_done}
use borrow.Author.Rules.{rules}
use native.Mathlib.Omega.{arith}
use Rattle.contents.proofs.kept.kept_columns.Goals as goal
use Rattle.contents.proofs.kept.kept_columns.Goals.{else-is_kept_column, then-is_kept_column}

pub overflow_cast-end : goal.overflow_cast-end
overflow_cast-end c = let a = c.args in omega (arith, c.columns_in-end.ensures, columns_few a.envelope a.relation)

pub loop-column-init : goal.loop-column-init
loop-column-init c = search (keeping_start, rules)

pub bounds-numbers-count : goal.bounds-numbers-count
bounds-numbers-count c = search (keeping_room, rules)

pub loop-column-preserved : goal.loop-column-preserved
loop-column-preserved c =
    elim c.if-is_kept_column.branch [
      | then-is_kept_column w ↦ search (keeping_yes, rules)
      | else-is_kept_column w ↦ search (keeping_no, rules)
    ]

pub returns : goal.returns
returns c = search (keeping_done, rules)
