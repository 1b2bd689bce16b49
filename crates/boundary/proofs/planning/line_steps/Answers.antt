use mathlib.Core.Path.{sym, ap, ◌∙◌}
use mathlib.Core.List.{map}
use lib.ListN.{get_or}
use borrow.Author.Rules.{rules}
use Rattle.ground.specs.Lists.{below}
use Rattle.ground.proofs.MadeLaws.{made_is}
use Rattle.papers.specs.Programs.{no_step}
use Rattle.estimates.specs.Estimate.{no_line, line_steps}
use Rattle.estimates.specs.declared.lines.Line.{Line}
use Rattle.answerer.proofs.SourceLaws.{by_number}
use Rattle.boundary.proofs.planning.line_steps.Goals as goal

pub returns : goal.returns
unfolding line_steps
returns c =
    let lines = c.args.lines.now in
    made_is _ (λ i. (get_or lines i no_line).step) _ 156 (λ i y q h k. search rules) _ c.from_fn.ensures.items
    ∙ ap (λ n. map (λ i. (get_or lines i no_line).step) (below n)) (sym c.requires) ∙ by_number (λ (l : Line). l.step) no_line no_step lines
