use borrow.Author.Rules.{rules}
use Rattle.estimates.specs.Columns.{width_of}
use Rattle.ground.proofs.MadeLaws.{made_is}
use Rattle.estimates.proofs.ProfileCodeLaws.{rows_in, count_in, given_whole}
use Rattle.estimates.proofs.profiles.given.Goals as goal

pub returns : goal.returns
returns c =
    let e = c.args.envelope in
    given_whole e _ _ _
    (made_is _ (rows_in e) _ 8 (λ i y q h k. search rules) _ c.from_fn.ensures.items)
    (made_is _ (count_in e) _ 64 (λ i y q h k. search rules) _ c.from_fn-2.ensures.items)
    (made_is _ (width_of e) _ 8 (λ i y q h k. search rules) _ c.from_fn-3.ensures.items)
