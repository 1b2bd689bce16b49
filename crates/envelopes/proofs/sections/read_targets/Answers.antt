use borrow.Author.Rules.{rules}
use Rattle.ground.proofs.OutcomeLaws.{exits}
use Rattle.entries.specs.Places.{place_at}
use Rattle.contents.specs.Parts.{with_targets}
use Rattle.envelopes.proofs.EnvelopeLaws.{part_refused, part_is}
use Rattle.envelopes.proofs.sections.read_targets.Goals as goal

pub returns-in_err-target_count : goal.returns-in_err-target_count
returns-in_err-target_count c =
    exits _ _ _ c.from_residual.ensures.1
    (part_refused _ _ _ with_targets (place_at c.args.envelope.relation_count c.args.envelope.relations c.args.s.now) _ _ _ c.read_list.result (c.read_list.ensures (place_at c.args.envelope.relation_count c.args.envelope.relations c.args.s.now) (λ p r b k. search rules)) _ c.in_err-target_count.was)

pub returns : goal.returns
unfolding with_targets
returns c =
    part_is _ _ _ with_targets (place_at c.args.envelope.relation_count c.args.envelope.relations c.args.s.now) _ _ _ c.read_list.result (c.read_list.ensures (place_at c.args.envelope.relation_count c.args.envelope.relations c.args.s.now) (λ p r b k. search rules)) _ _ _ _ c.in_ok-target_count.was
    (λ vs h k. simp (h, k, c.no_place-empty.ensures))
