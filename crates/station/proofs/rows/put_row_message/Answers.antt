use Rattle.station.proofs.RowMessageCodeLaws.{kept_in_use, message_few, message_product, message_short, message_made}
use Rattle.std.proofs.Common.{◌∙◌}
use native.Mathlib.Omega.{arith}
use Rattle.station.proofs.rows.put_row_message.Goals as goal

pub overflow_mul-length : goal.overflow_mul-length
overflow_mul-length c =
    omega (
      arith,
      message_product _ _ c.args.marks.now _ c.requires.0 c.requires.1 c.requires.2 c.args.run c.args.message.now _
          c.extent_of-extent.ensures _ (c.in_use-columns.ensures ∙ kept_in_use _ _ _ c.kept_columns-kept.ensures) _ c.count_kept-count.ensures,
    )

pub overflow_add-length : goal.overflow_add-length
overflow_add-length c =
    omega (
      arith,
      message_product _ _ c.args.marks.now _ c.requires.0 c.requires.1 c.requires.2 c.args.run c.args.message.now _
          c.extent_of-extent.ensures _ (c.in_use-columns.ensures ∙ kept_in_use _ _ _ c.kept_columns-kept.ensures) _ c.count_kept-count.ensures,
    )

pub returns-then-message-length : goal.returns-then-message-length
returns-then-message-length c =
    rw c.at.ensures
    (message_short _ _ c.args.marks.now _ c.requires.0 c.requires.1 c.requires.2 c.args.run c.args.message.now _
    c.extent_of-extent.ensures _ (c.in_use-columns.ensures ∙ kept_in_use _ _ _ c.kept_columns-kept.ensures) _ c.count_kept-count.ensures
    c.if-message-length.true)

pub overflow_cast-count : goal.overflow_cast-count
overflow_cast-count c =
    omega (
      arith,
      message_few _ _ c.args.marks.now _ c.requires.0 c.requires.1 c.requires.2 c.args.run c.args.message.now _
          c.extent_of-extent.ensures _ (c.in_use-columns.ensures ∙ kept_in_use _ _ _ c.kept_columns-kept.ensures) _ c.count_kept-count.ensures,
    )

pub returns : goal.returns
returns c =
    message_made _ _ c.args.marks.now _ c.requires.0 c.requires.1 c.requires.2 c.args.run c.args.message.now _
    c.extent_of-extent.ensures _ (c.in_use-columns.ensures ∙ kept_in_use _ _ _ c.kept_columns-kept.ensures) _ c.count_kept-count.ensures
    c.if-message-length.false _ c.put_front.ensures _ c.put_rows.ensures
