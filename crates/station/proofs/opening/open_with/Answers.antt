use Rattle.station.proofs.OpeningCodeLaws.{open_shapeless, open_past, open_refused, open_taken}
use Rattle.station.proofs.MakingCodeLaws.{exits_with}
use Rattle.std.proofs.lemmas.Bool.{not_from_false, not_from_true}
use Rattle.station.proofs.opening.open_with.Goals as goal

pub returns-then-not-is_shaped : goal.returns-then-not-is_shaped
returns-then-not-is_shaped c =
    rw c.at.ensures (open_shapeless _ _ _ _ _ _ c.is_shaped.ensures (not_from_false _ c.if-not-is_shaped.true))

pub returns-then-site-gt7 : goal.returns-then-site-gt7
returns-then-site-gt7 c =
    rw c.at-then-site-gt7.ensures
    (open_past _ _ _ _ _ _ c.is_shaped.ensures (not_from_true _ c.if-not-is_shaped.false) c.if-site-gt7.true)

pub returns-in_err-open_marks : goal.returns-in_err-open_marks
returns-in_err-open_marks c =
    exits_with _ _ _ c.from_residual.ensures.1
    (open_refused _ _ _ _ _ _ c.is_shaped.ensures (not_from_true _ c.if-not-is_shaped.false) c.if-site-gt7.false c.requires _
    c.here_at-here.ensures _ _ c.open_marks.ensures.0 c.open_marks.ensures.1 _ c.in_err-open_marks.was)

pub returns : goal.returns
returns c =
    open_taken _ _ _ _ _ _ c.is_shaped.ensures (not_from_true _ c.if-not-is_shaped.false) c.if-site-gt7.false c.requires _
    c.here_at-here.ensures _ _ c.open_marks.ensures.0 c.open_marks.ensures.1 c.in_ok-open_marks.was _ c.start_of.ensures
