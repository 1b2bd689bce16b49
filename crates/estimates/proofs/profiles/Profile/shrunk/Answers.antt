use borrow.Author.Rules.{rules}
use Rattle.ground.proofs.MadeLaws.{made_is}
use Rattle.estimates.proofs.ProfileCodeLaws.{left_at, shrunk_whole}
use Rattle.estimates.proofs.profiles.Profile.shrunk.Goals as goal

pub returns : goal.returns
returns c =
    let a = c.args in
    shrunk_whole a.self a.place a.rows a.count _ _
    (made_is _ (left_at a.self a.place a.rows a.count) _ 64 (λ i y q h k. search rules) _ c.from_fn.ensures.items)
    c.with_rows.ensures
