use lib.ListN.{take}
use lib.Dec.{leb}
use borrow.Author.Tests.{tests}
use Rattle.std.proofs.lemmas.Iterator.{YieldsList-from_slice}
use Rattle.std.proofs.lemmas.Iterator.Search.{all_from_yields_List}
use Rattle.tables.proofs.OffsetCodeLaws.{shape_beyond, shape_other, shape_counts}
use borrow.Author.Rules.{rules}
use native.Mathlib.Omega.{arith}
use Rattle.tables.proofs.shape.is_shaped.Goals as goal

pub returns-then-tables-n : goal.returns-then-tables-n
returns-then-tables-n c = shape_beyond _ _ _ c.in_use-n.ensures c.then-tables-n.either

pub returns-then-end-tables : goal.returns-then-end-tables
returns-then-end-tables c = search (shape_other, rules)

pub returns : goal.returns
returns c =
    shape_counts _ _ _ _ c.in_use-n.ensures c.extent_of-end.ensures (omega arith) (omega arith) (search rules) _
    (all_from_yields_List (λ x. leb x 4096) _ _ _ c.all.ensures.ran (YieldsList-from_slice (take c.in_use-n.result c.args.tables.now) (search rules)) (λ x b q k. search (rules, tests)))
