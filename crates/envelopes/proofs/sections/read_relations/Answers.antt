use borrow.Author.Rules.{rules}
use Rattle.ground.proofs.OutcomeLaws.{exits}
use Rattle.entries.specs.Relations.{relation_at}
use Rattle.contents.specs.Parts.{with_relations}
use Rattle.envelopes.proofs.EnvelopeLaws.{part_refused, part_is}
use Rattle.envelopes.proofs.sections.read_relations.Goals as goal

pub returns-in_err-relation_count : goal.returns-in_err-relation_count
returns-in_err-relation_count c =
    exits _ _ _ c.from_residual.ensures.1
    (part_refused _ _ _ with_relations (relation_at c.args.envelope.domain_count c.args.envelope.sizes c.args.s.now) _ _ _ c.read_list.result (c.read_list.ensures (relation_at c.args.envelope.domain_count c.args.envelope.sizes c.args.s.now) (λ p r b k. search rules)) _ c.in_err-relation_count.was)

pub returns : goal.returns
unfolding with_relations
returns c =
    part_is _ _ _ with_relations (relation_at c.args.envelope.domain_count c.args.envelope.sizes c.args.s.now) _ _ _ c.read_list.result (c.read_list.ensures (relation_at c.args.envelope.domain_count c.args.envelope.sizes c.args.s.now) (λ p r b k. search rules)) _ _ _ _ c.in_ok-relation_count.was
    (λ vs h k. simp (h, k, c.no_relation-empty.ensures))
