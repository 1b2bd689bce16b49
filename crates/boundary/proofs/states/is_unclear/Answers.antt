use mathlib.Core.Path.{◌∙◌}
use Rattle.boundary.proofs.StateLaws.{unclear_in}
use Rattle.boundary.proofs.states.is_unclear.Goals as goal

pub returns : goal.returns
returns c = c.is_any_above_one.ensures ∙ unclear_in c.args.state.now c.requires
