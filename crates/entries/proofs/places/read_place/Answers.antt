use Rattle.fields.proofs.NumberLaws.{read_below}
use Rattle.ground.proofs.OutcomeLaws.{exits}
use Rattle.entries.proofs.PlaceCodeLaws.{place_no_relation, place_no_column, place_is, column_few}
use native.Mathlib.Omega.{arith}
use borrow.Author.Rules.{rules}
use Rattle.entries.proofs.places.read_place.Goals as goal

pub returns-in_err-relation : goal.returns-in_err-relation
returns-in_err-relation c = search (place_no_relation, rules)

pub returns-in_err-column : goal.returns-in_err-column
returns-in_err-column c =
    exits _ _ _ c.from_residual-in_err-column.ensures.1 (search (place_no_column, c.in_ok-relation.was, c.in_err-column.was, rules))

pub overflow_cast-place : goal.overflow_cast-place
overflow_cast-place c = omega (arith, read_below _ _ _ _ _ _ c.in_ok-relation.was _ c.number_below.ensures)

pub overflow_cast-place-2 : goal.overflow_cast-place-2
overflow_cast-place-2 c =
    omega (
      arith,
      column_few _ c.args.relations.now _ _ _ c.number_below.ensures _ _ c.in_ok-relation.was _ c.column_count-columns.ensures _
          c.number_below-2.ensures _ _ c.in_ok-column.was,
    )

pub returns : goal.returns
returns c = search (place_is, c.in_ok-relation.was, c.in_ok-column.was, rules)
