use Rattle.std.proofs.Common.{rules}
use Rattle.ground.proofs.MadeLaws.{made_is}
use Rattle.contents.specs.Sites.{is_at}
use Rattle.station.proofs.opening.here_at.Goals as goal

pub returns : goal.returns
returns c = made_is _ (is_at c.args.envelope c.args.site) _ 8 (λ i y q h k. search rules) _ c.from_fn.ensures.items
