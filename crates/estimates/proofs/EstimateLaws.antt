-- The estimate of a given program: its lines, and that the total is the sum of what the lines say and of assembly.
use mathlib.Core.Path.{◌≡◌, refl, ap, subst}
use mathlib.Core.Bool.{true, ◌&&◌}
use mathlib.Core.List.{List, [], ◌∷◌, map}
use mathlib.Core.Logic.{◌↔◌}
use Prim.Native.Nat.{ℕ, suc, ◌+◌}
use lib.ListN.{length, take}
use Rattle.ground.specs.Lists.{sum}
use Rattle.ground.proofs.TestLaws.{and_left, and_right, and_both}
use Rattle.ground.proofs.CollectingLaws.{padded_take}
use Rattle.entries.specs.Places.{same_place}
use Rattle.contents.specs.declared.envelope.Envelope.{Envelope}
use Rattle.paths.specs.declared.steps.Step.{Step}
use Rattle.paths.proofs.PathLaws.{same_place_lem, place_same}
use Rattle.estimates.specs.Profile.{after_step, local_profile}
use Rattle.estimates.specs.Costs.{step_cost}
use Rattle.estimates.specs.Kind.{costs, total}
use Rattle.estimates.specs.Estimate.{same_step, kind_of, no_line, lines_of, line_steps, costs_in, estimated}
use Rattle.estimates.specs.declared.profiles.Profile.{Profile}
use Rattle.estimates.specs.declared.costs.Costs.{Costs}
use Rattle.estimates.specs.declared.lines.Line.{Line}
use Rattle.estimates.specs.declared.lines.Estimate.{Estimate}
use Rattle.estimates.proofs.KindLaws.{total_is}

-- steps are the same exactly where they are equal
pub step_tells : (s t : Step) → (same_step s t ≡ true) ↔ (s ≡ t)
unfolding same_step
step_tells s t = (equal, same)
  where
    both : s.left ≡ t.left → s.right ≡ t.right → s ≡ t
    both p q = λ i. record { left = p i; right = q i }

    equal : (same_place s.left t.left && same_place s.right t.right) ≡ true → s ≡ t
    equal h =
        both (same_place_lem _ _ (and_left _ _ h)) (same_place_lem _ _ (and_right (same_place s.left t.left) _ h))

    same : s ≡ t → (same_place s.left t.left && same_place s.right t.right) ≡ true
    same e =
        subst (λ (u : Step). (same_place s.left u.left && same_place s.right u.right) ≡ true) e
        (and_both (place_same s.left) (place_same s.right))

module _ (k : Costs) (e : Envelope) where
  pub lines_length : (p : Profile) (ss : List Step) → length (lines_of k e p ss) ≡ length ss
  unfolding lines_of
  lines_length p [] = refl
  lines_length p (s ∷ ss) = ap suc (lines_length (after_step e p s) ss)

  pub lines_steps : (p : Profile) (ss : List Step) → line_steps (lines_of k e p ss) ≡ ss
  unfolding lines_of line_steps
  lines_steps p [] = refl
  lines_steps p (s ∷ ss) = ap (λ (l : List Step). s ∷ l) (lines_steps (after_step e p s) ss)

  pub lines_costs : (p : Profile) (ss : List Step) → costs_in (lines_of k e p ss) ≡ costs (kind_of k e) p ss
  unfolding lines_of
  lines_costs p [] = refl
  lines_costs p (s ∷ ss) = ap (λ (l : List ℕ). step_cost k e p s ∷ l) (lines_costs (after_step e p s) ss)

  module _ (ss : List Step) (site : ℕ) where
    pub estimated_lines : take (estimated k e ss site).count (estimated k e ss site).lines ≡ lines_of k e (local_profile e) ss
    unfolding estimated
    estimated_lines =
        rw (lines_length (local_profile e) ss) at (padded_take 156 no_line (lines_of k e (local_profile e) ss))

    -- the total of an estimate, as something else gave it
    pub estimated_whole : (x : Estimate) → x ≡ estimated k e ss site → x.total ≡ total (kind_of k e) (local_profile e) site ss
    unfolding estimated
    estimated_whole x h = rw h

    whole : (estimated k e ss site).total ≡ sum (costs (kind_of k e) (local_profile e) ss) + (estimated k e ss site).assembly
    unfolding estimated
    whole = total_is (kind_of k e) (local_profile e) site ss

    pub estimated_total : (estimated k e ss site).total
        ≡ sum (map (λ (l : Line). l.cost) (take (estimated k e ss site).count (estimated k e ss site).lines)) + (estimated k e ss site).assembly
    estimated_total = rw (estimated_lines, lines_costs (local_profile e) ss) whole
