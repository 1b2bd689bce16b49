use Rattle.tables.proofs.OffsetCodeLaws.{words_fit_in, adding_start, adding_more}
use borrow.Author.Rules.{rules}
use native.Mathlib.Omega.{arith}
use Rattle.tables.proofs.offsets.extent_of.Goals as goal

pub loop-i-init : goal.loop-i-init
loop-i-init c = (omega arith, adding_start _ _ _ c.in_use-word.ensures)

pub overflow_add-word : goal.overflow_add-word
overflow_add-word c =
    omega (
      arith,
      words_fit_in _ _ c.count_in-rows.result c.columns_in-columns.result c.columns_in-columns.ensures (omega
          arith),
    )

pub loop-i-preserved : goal.loop-i-preserved
loop-i-preserved c = search (adding_more, rules)
