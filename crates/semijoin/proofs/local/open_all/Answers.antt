use Rattle.contents.specs.Parts.{relation_count}
use Prim.Native.Nat.{◌<◌}
use mathlib.Core.Bool.{false}
use lib.ListN.{get_or}
use Rattle.tables.proofs.ShapeLaws.{marks_there}
use Rattle.semijoin.proofs.LocalCodeLaws.{opening_all_start, opening_all_more, opening_all_done}
use borrow.Author.Rules.{rules}
use native.Mathlib.Omega.{arith}
use Rattle.semijoin.proofs.local.open_all.Goals as goal

pub loop-relation-init : goal.loop-relation-init
loop-relation-init c = search (opening_all_start, rules)

pub open_rows-requires : goal.open_rows-requires
open_rows-requires c = let h : c.loop-relation.relation < relation_count c.args.envelope = omega arith in
    let x = c.extent_of-extent.ensures in
    marks_there c.args.envelope c.args.tables.now _ _ x h _ (omega (arith, c.loop-relation.invariant.long))

pub loop-relation-preserved : goal.loop-relation-preserved
loop-relation-preserved c =
    opening_all_more c.args.envelope c.args.tables.now (λ r. get_or c.args.here r false) _ _ _ _ c.loop-relation.invariant
    c.requires.0 _ c.labels_of-labels.ensures _ c.extent_of-extent.ensures _ c.selections_by-selected.ensures _
    c.equalities_by-equal.ensures _ c.first.ensures _ c.first-in-loop-relation.ensures c.loop-relation-test.true _
    c.open_rows.ensures

pub returns : goal.returns
returns c =
    opening_all_done c.args.envelope c.args.tables.now (λ r. get_or c.args.here r false) _ _ _ _ c.loop-relation.invariant
    c.loop-relation-test.false c.in_use-end.ensures
