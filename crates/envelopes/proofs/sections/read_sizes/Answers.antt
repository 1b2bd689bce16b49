use borrow.Author.Rules.{rules}
use Rattle.ground.proofs.OutcomeLaws.{exits}
use Rattle.envelopes.specs.Envelope.{size_at}
use Rattle.contents.specs.Parts.{with_sizes}
use Rattle.envelopes.proofs.EnvelopeLaws.{part_refused, part_is}
use Rattle.envelopes.proofs.sections.read_sizes.Goals as goal

pub returns-in_err-domain_count : goal.returns-in_err-domain_count
returns-in_err-domain_count c =
    exits _ _ _ c.from_residual.ensures.1
    (part_refused _ _ _ with_sizes (size_at c.args.s.now) _ _ _ c.read_list.result (c.read_list.ensures (size_at c.args.s.now) (λ p r b k. search rules)) _ c.in_err-domain_count.was)

pub returns : goal.returns
unfolding with_sizes
returns c =
    part_is _ _ _ with_sizes (size_at c.args.s.now) _ _ _ c.read_list.result (c.read_list.ensures (size_at c.args.s.now) (λ p r b k. search rules)) _ _ _ _ c.in_ok-domain_count.was
    (λ vs h k. simp (h, k))
