-- "Cost: s times the width of S.B, or 0 on one site." "Assembly at a site: rows times width, summed over relations
-- elsewhere." A cost is a size times the price from the sender's site to the receiver's: 0 on one site, 1 elsewhere.
use Rattle.std.specs.Prelude.{ℕ, ◌+◌, ◌*◌, ◌/◌, ◌%◌, map, slice_index, nat_eq}
use Rattle.ground.specs.Tests.{pick}
use Rattle.ground.specs.Lists.{below, sum}
use Rattle.contents.specs.Parts.{relation_count}
use Rattle.contents.specs.Sites.{site_of}
use Rattle.contents.specs.declared.envelope.Envelope.{Envelope}
use Rattle.paths.specs.declared.steps.Step.{Step}
use Rattle.estimates.specs.Columns.{column_of}
use Rattle.estimates.specs.Profile.{estimated_rows, distinct_of, width_at}
use Rattle.estimates.specs.declared.profiles.Profile.{Profile}
use Rattle.estimates.specs.declared.costs.Costs.{Costs}

-- one price between any two sites
unfoldable pub plain_costs : Costs
plain_costs = record { prices = map (λ k. pick (nat_eq (k / 8) (k % 8)) 0 1) (below 64) }

unfoldable pub priced : Costs → ℕ → ℕ → ℕ → ℕ
priced k sender receiver size = size * slice_index k.prices (8 * sender + receiver)

unfoldable pub step_cost : Costs → Envelope → Profile → Step → ℕ
step_cost k e p s =
    priced k (site_of e s.right.relation) (site_of e s.left.relation) (distinct_of p s.right * (column_of e s.right).width)

unfoldable pub assembly_at : Costs → Envelope → Profile → ℕ → ℕ
assembly_at k e p site = sum (map (λ r. priced k (site_of e r) site (estimated_rows p r * width_at p r)) (below (relation_count e)))
