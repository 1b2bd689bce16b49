use Rattle.planner.proofs.CandidateCodeLaws.{listing_start, listing_room, listing_yes, listing_no, listing_done}
use mathlib.Core.Path.{◌∙◌}
use borrow.Author.Rules.{rules}
use Rattle.planner.proofs.candidates.legal_steps.Goals as goal
use Rattle.planner.proofs.candidates.legal_steps.Goals.{else-legal_by, then-legal_by}

pub loop-k-init : goal.loop-k-init
loop-k-init c = search (listing_start, rules)

pub push-requires : goal.push-requires
push-requires c = search (listing_room, rules)

pub loop-k-preserved : goal.loop-k-preserved
loop-k-preserved c =
    elim c.if-legal_by.branch [
      | then-legal_by w ↦ listing_yes c.args.envelope c.requires _ _ c.loop-k.invariant (search rules) _ c.labels_of-labels.ensures _
          c.candidate_at-step.ensures _ c.legal_by.ensures w.if-legal_by.true _ (w.steps-is ∙ w.push.ensures)
      | else-legal_by w ↦ search (listing_no, rules)
    ]

pub returns : goal.returns
returns c = search (listing_done, rules)
