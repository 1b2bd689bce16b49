-- What a width, a cost and assembly can come to, with prices that have a bound; plain prices are at
-- most 1.
use mathlib.Core.Path.{◌≡◌, refl}
use mathlib.Core.Bool.{Bool, true, false}
use mathlib.Core.List.{List, [], ◌∷◌, map, Memᴰ}
use Prim.Native.Nat.{ℕ, ◌+◌, ◌*◌, ◌/◌, ◌%◌, ◌≤◌, ◌<◌, zero-le}
use native.Mathlib.Nat.{mul-le-mul, mul-le-mul_left}
use native.Mathlib.Omega.{arith}
use lib.ListN.{length, get_or}
use lib.Dec.{eqb}
use Rattle.ground.specs.Tests.{pick}
use Rattle.ground.specs.Lists.{Every, below, sum}
use Rattle.ground.proofs.CountLaws.{split}
use Rattle.ground.proofs.ListLaws.{filter_from, filter_length}
use Rattle.ground.proofs.EveryLaws.{every_of, every_mapped}
use Rattle.ground.proofs.NumbersLaws.{below_length, below_from}
use Rattle.entries.specs.Places.{place}
use Rattle.contents.specs.Parts.{relation_count, columns_in}
use Rattle.contents.specs.Sites.{site_of}
use Rattle.contents.specs.Kept.{kept, kept_columns}
use Rattle.envelopes.specs.Rules.{Within}
use Rattle.contents.specs.declared.envelope.Envelope.{Envelope}
use Rattle.contents.proofs.PartLaws.{columns_outside, columns_few}
use Rattle.paths.specs.Steps.{is_place, legal, LegalStep}
use Rattle.paths.specs.declared.steps.Step.{Step}
use Rattle.paths.proofs.LabelLaws.{in_place}
use Rattle.paths.proofs.StepLaws.{legal_step}
use Rattle.estimates.specs.Columns.{column_of, width_of}
use Rattle.estimates.specs.Profile.{given, width_at, estimated_rows}
use Rattle.estimates.specs.Costs.{plain_costs, priced, step_cost, assembly_at}
use Rattle.estimates.specs.Kind.{after_all}
use Rattle.estimates.specs.Estimate.{kind_of}
use Rattle.estimates.specs.Ready.{Cheap}
use Rattle.estimates.specs.declared.profiles.Profile.{Profile}
use Rattle.estimates.specs.declared.costs.Costs.{Costs}
use Rattle.estimates.proofs.KindLaws.{good_after}
use Rattle.estimates.proofs.ProfileLaws.{Inside, get_d_every, column_within, rows_most, count_most, step_inside}

-- ---- general

sum_most : {A : Type 0} (f : A → ℕ) (b : ℕ) (l : List A) → ((x : A) → Memᴰ x l → f x ≤ b) → sum (map f l) ≤ b * length l
sum_most f b [] h = zero-le
sum_most f b (x ∷ l) h = omega (arith, h x (Memᴰ.head refl), sum_most f b l (λ y m. h y (Memᴰ.tail m)))

-- ---- widths

module _ (e : Envelope) (w : Within e) where
  -- a column of a relation, by number, is a column of the envelope
  column_place : (r c : ℕ) → c < columns_in e r → is_place e (place r c) ≡ true
  column_place r c h =
      split e.relation_count r
      (λ l. absurd (omega (arith, columns_outside e r l)))
      (λ l. in_place e (place r c) (omega (arith, w.relations)) h)

  width_most : (r : ℕ) → width_of e r ≤ 2040
  unfolding width_of kept_columns
  width_most r =
      omega (
        arith,
        sum_most (λ c. (column_of e (place r c)).width) 255 (kept_columns e r)
            (λ c m. (column_within e w (place r c) (column_place r c (below_from (columns_in e r) (filter_from _ (below (columns_in e r)) m).0))).width.1),
        filter_length (λ c. kept e (place r c)) (below (columns_in e r)),
        below_length (columns_in e r),
        columns_few e r,
      )

  pub widths_most : (p : Profile) → Inside e p → (r : ℕ) → width_at p r ≤ 2040
  unfolding given
  widths_most p i r =
      rw i.widths
      (get_d_every (λ n. n ≤ 2040) 0 zero-le (map (width_of e) (below 8))
      (every_mapped (λ n. n ≤ 2040) (width_of e) (below 8) (every_of _ (below 8) (λ s _. width_most s))) r)

  -- ---- costs, with prices at most m

  module _ (k : Costs) (m : ℕ) (cheap : (i : ℕ) → get_or k.prices i 0 ≤ m) where
    priced_most : (most size sender receiver : ℕ) → size ≤ most → priced k sender receiver size ≤ most * m
    unfolding priced
    priced_most most size sender receiver h = mul-le-mul h (cheap (8 * sender + receiver))

    pub cost_most : (p : Profile) (s : Step) → Inside e p → legal e s ≡ true → step_cost k e p s ≤ 255000000 * m
    unfolding step_cost
    cost_most p s i t =
        let l : LegalStep e s = legal_step e s t in
        priced_most 255000000 _ _ _ (mul-le-mul (count_most e w p i s.right l.right) (column_within e w s.right l.right).width.1)

    pub assembly_most : (site : ℕ) (p : Profile) → Inside e p → assembly_at k e p site ≤ 16320000000 * m
    unfolding assembly_at
    assembly_most site p i =
        let few : length (below (relation_count e)) ≤ 8 = omega (arith, below_length (relation_count e)) in
        omega (
          arith,
          sum_most (λ r. priced k (site_of e r) site (estimated_rows p r * width_at p r)) (2040000000 * m) (below (relation_count e))
              (λ r _. priced_most 2040000000 _ _ _ (mul-le-mul (rows_most e w p i r) (widths_most p i r))),
          mul-le-mul_left (2040000000 * m) few,
        )

  -- the profile behind a program of legal steps
  pub after_inside : (k : Costs) (p : Profile) (ss : List Step) → Inside e p → Every (λ (s : Step). legal e s ≡ true) ss
      → Inside e (after_all (kind_of k e) p ss)
  after_inside k p ss i t =
      good_after (kind_of k e) (Inside e) (λ (s : Step). legal e s ≡ true) (λ q s j u. step_inside e w q j s u) p ss i t

pub plain_most : Cheap plain_costs
unfolding plain_costs
plain_most i =
    get_d_every (λ n. n ≤ 1) 0 zero-le (map (λ j. pick (eqb (j / 8) (j % 8)) 0 1) (below 64))
    (every_mapped (λ n. n ≤ 1) (λ j. pick (eqb (j / 8) (j % 8)) 0 1) (below 64) (every_of _ (below 64) (λ j _. go (eqb (j / 8) (j % 8))))) i
  where
    go : (b : Bool) → pick b 0 1 ≤ 1
    go true = zero-le
    go false = omega arith
