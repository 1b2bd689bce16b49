use native.Mathlib.Omega.{arith}
use borrow.Author.Rules.{rules}
use Rattle.ground.proofs.MadeLaws.{made_is, mapped_is}
use Rattle.boundary.specs.States.{applied_word, bit_of}
use Rattle.boundary.proofs.StateLaws.{bit_is, state_put}
use Rattle.boundary.proofs.states.put_state.Goals as goal

pub returns : goal.returns
returns c =
    state_put c.args.end c.args.state.now c.in_use-relations.result c.as_word.result c.from_fn-applied.result c.map.result c.requires
    c.in_use-relations.ensures c.as_word.ensures
    (made_is _ (λ r. applied_word c.in_use-relations.result c.args.end.applied c.args.state.now r) _ 8 (λ i y q h k. search rules) _ c.from_fn-applied.ensures.items)
    (mapped_is _ bit_of _ (λ x y q h. search (bit_is, rules)) _ _ 8 (omega arith) c.map.ensures.items) (omega arith)
    _ _ _ c.copy_from_slice.ensures.after c.copy_from_slice-2.ensures.after c.copy_from_slice-3.ensures.after
