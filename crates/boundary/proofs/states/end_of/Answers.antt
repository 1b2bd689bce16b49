use borrow.Author.Rules.{rules}
use lib.ListN.{get_or}
use lib.Dec.{eqb}
use Prim.Native.Nat.{◌+◌}
use mathlib.Core.Path.{refl}
use Rattle.ground.proofs.MadeLaws.{made_is}
use Rattle.boundary.proofs.StateLaws.{end_is}
use Rattle.boundary.proofs.states.end_of.Goals as goal

pub returns : goal.returns
returns c =
    end_is _ _ _ _ _ (made_is _ (λ r. get_or c.args.state.now (3 + r) 0) _ 8 (λ i y q h k. search rules) _ c.from_fn.ensures.items)
    (made_is _ (λ r. eqb (get_or c.args.state.now (11 + r) 0) 1) _ 8 (λ i y q h k. search rules) _ c.from_fn-2.ensures.items) refl
