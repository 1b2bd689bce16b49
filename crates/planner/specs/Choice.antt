-- "2. Again and again, of the unused legal steps with benefit above cost, append the one of greatest benefit minus cost;
-- ties go to the smallest left relation, left column, right relation, right column, in that order. 3. The cheapest site
-- that holds a relation, lowest number on a tie. 4. Steps whose left relation is there, dearest first and earlier first on a
-- tie: drop the step if the total at that site, estimated anew, becomes strictly lower .. Costs for the ordering are those
-- before any drop. 5. H: if the total isn't below the total of local operations alone at their cheapest site, hand out no steps
-- and that site." Over any kind of estimate.
use Rattle.std.specs.Prelude.{Bool, not, List, [], ◌∷◌, map, ℕ, zero, suc, ◌-◌, length, slice_index, slice_index_or, nat_eq, nat_lt}
use Rattle.std.proofs.Math.Option.{Option, none, some}
use Rattle.ground.specs.Tests.{pick}
use Rattle.ground.specs.Lists.{filter, below}
use Rattle.ground.specs.Choice.{first_of_greatest}
use Rattle.estimates.specs.Kind.{Kind, costs, total}

-- a program and a site
pub record Handed (S : Type 0) : Type 0 where
  pub steps : List S
  pub site : ℕ

-- without one number
abbrev pub but_for : ℕ → List ℕ → List ℕ
but_for i l = filter (λ j. not (nat_eq i j)) l

-- the numbers of a program's steps, by their costs, dearest first, earlier first on a tie: n of those that are left
abbrev pub dearest_first : List ℕ → ℕ → List ℕ → List ℕ
dearest_first cs zero left = []
dearest_first cs (suc n) left =
    elim (first_of_greatest (λ i. suc (slice_index cs i)) left)
    [ none ↦ [] | some i ↦ i ∷ dearest_first cs n (but_for i left) ]

-- the steps of some numbers
abbrev pub steps_at : {S : Type 0} → S → List S → List ℕ → List S
steps_at z ss numbers = map (λ i. slice_index_or ss i z) numbers

module _ {P S : Type 0} (k : Kind P S) where
  -- benefit minus cost, 0 where the benefit is not above the cost
  abbrev pub gain : P → S → ℕ
  gain p s = k.benefit p s - k.cost p s

  abbrev pub without : S → List S → List S
  without s ss = filter (λ (t : S). not (k.same s t)) ss

  -- the greedy program: at most n steps of the unused ones, which stand in the order of ties
  abbrev pub greedy : ℕ → List S → P → List S
  greedy zero unused p = []
  greedy (suc n) unused p =
      elim (first_of_greatest (gain p) unused) [ none ↦ [] | some s ↦ s ∷ greedy n (without s unused) (k.after p s) ]

  -- the first site of least assembly
  abbrev pub cheaper : P → ℕ → Option ℕ → Option ℕ
  cheaper p a none = some a
  cheaper p a (some b) = pick (nat_lt (k.assembly p b) (k.assembly p a)) (some b) (some a)

  abbrev pub cheapest : P → List ℕ → Option ℕ
  cheapest p [] = none
  cheapest p (a ∷ l) = cheaper p a (cheapest p l)

  -- 0 where there is none
  abbrev pub site_among : P → List ℕ → ℕ
  site_among p l = elim (cheapest p l) [ none ↦ 0 | some site ↦ site ]

  -- each number once, in order: without it where that makes the total strictly lower
  abbrev pub dropped : P → ℕ → (List ℕ → List S) → List ℕ → List ℕ → List ℕ
  dropped p site steps [] kept = kept
  dropped p site steps (i ∷ order) kept =
      let fewer = but_for i kept in
      dropped p site steps order (pick (nat_lt (total k p site (steps fewer)) (total k p site (steps kept))) fewer kept)

  -- the program after drops at a site: mine says of a step whether its left relation is there
  abbrev pub drops : S → P → ℕ → (S → Bool) → List S → List S
  drops z p site mine ss =
      let numbers = below (length ss) in
      let there = filter (λ i. mine (slice_index_or ss i z)) numbers in
      let order = dearest_first (costs k p ss) (length there) there in
      steps_at z ss (dropped p site (steps_at z ss) order numbers)

  -- the fallback
  abbrev pub fallback : P → ℕ → Handed S → Handed S
  fallback p home h = pick (nat_lt (total k p h.site h.steps) (total k p home [])) h (record { steps = []; site = home })
