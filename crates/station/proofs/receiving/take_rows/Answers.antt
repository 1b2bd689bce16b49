use Rattle.station.proofs.TakingCodeLaws.{rows_elsewhere, rows_uncounted, rows_again, rows_longer, rows_behind, rows_stored, arrived_is}
use Rattle.std.proofs.lemmas.Bool.{not_from_false, not_from_true}
use Rattle.station.proofs.receiving.take_rows.Goals as goal

pub returns-then-end-papers : goal.returns-then-end-papers
returns-then-end-papers c = rw c.at.ensures (rows_elsewhere _ _ _ _ _ c.if-end-papers.true)

pub returns-then-not-is_counted : goal.returns-then-not-is_counted
returns-then-not-is_counted c =
    rw c.at-then-not-is_counted.ensures (rows_uncounted _ _ _ _ _ c.if-end-papers.false _ c.kept_columns-columns.ensures _ c.is_counted.ensures (not_from_false _ c.if-not-is_counted.true))

pub returns-then-end-relation : goal.returns-then-end-relation
returns-then-end-relation c =
    rw c.at-then-end-relation.ensures
    (rows_again _ _ _ _ _ c.if-end-papers.false _ c.kept_columns-columns.ensures _ c.is_counted.ensures
    (not_from_true _ c.if-not-is_counted.false) c.if-end-relation.true)

pub returns-then-store-message : goal.returns-then-store-message
returns-then-store-message c =
    rw c.at-then-store-message.ensures
    (rows_longer _ _ _ _ _ c.if-end-papers.false _ c.kept_columns-columns.ensures _ c.is_counted.ensures
    (not_from_true _ c.if-not-is_counted.false) c.if-end-relation.false c.if-store-message.true)

pub returns-then-store-message-2 : goal.returns-then-store-message-2
returns-then-store-message-2 c =
    rw c.at-then-store-message-2.ensures
    (rows_behind _ _ _ _ _ c.if-end-papers.false _ c.kept_columns-columns.ensures _ c.is_counted.ensures
    (not_from_true _ c.if-not-is_counted.false) c.if-end-relation.false c.if-store-message.false c.if-store-message-2.true)

pub returns : goal.returns
returns c =
    rows_stored _ _ _ _ _ c.if-end-papers.false _ c.kept_columns-columns.ensures _ c.is_counted.ensures
    (not_from_true _ c.if-not-is_counted.false) c.if-end-relation.false c.if-store-message.false c.if-store-message-2.false
    _ c.append.ensures _ (arrived_is _ _ _)
