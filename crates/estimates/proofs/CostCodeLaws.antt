-- The laws that the code of costs goes by: what each return answers, and that its numbers have a bound.
use mathlib.Core.Path.{◌≡◌, sym, ap, ◌∙◌}
use mathlib.Core.List.{List, map}
use Prim.Native.Nat.{ℕ, ◌+◌, ◌*◌, ◌-◌, ◌/◌, ◌%◌, ◌≤◌, ◌<◌}
use native.Mathlib.Nat.{mul-le-mul}
use native.Mathlib.Omega.{arith}
use borrow.Author.Tests.{eq-eqb, ne_eqb}
use lib.Dec.{eqb}
use lib.ListN.{get_or}
use Rattle.ground.specs.Tests.{pick}
use Rattle.ground.specs.Lists.{below, sum}
use Rattle.ground.proofs.NumbersLaws.{below_length, below_get_d}
use Rattle.contents.specs.Parts.{relation_count}
use Rattle.contents.specs.Sites.{site_of}
use Rattle.entries.specs.declared.relations.Column.{Column}
use Rattle.contents.specs.declared.envelope.Envelope.{Envelope}
use Rattle.paths.specs.declared.steps.Step.{Step}
use Rattle.estimates.specs.Columns.{column_of}
use Rattle.estimates.specs.Profile.{estimated_rows, distinct_of, rows_after, benefit, width_at}
use Rattle.estimates.specs.Ready.{Cheap, Bounded}
use Rattle.estimates.specs.Costs.{plain_costs, priced, step_cost, assembly_at}
use Rattle.estimates.specs.declared.profiles.Profile.{Profile}
use Rattle.estimates.specs.declared.costs.Costs.{Costs}
use Rattle.ground.proofs.SummingLaws.{Summing, summing_start, summing_more, summing_done}

-- ---- plain prices

abbrev pub plain_price : ℕ → ℕ
plain_price k = pick (eqb (k / 8) (k % 8)) 0 1

pub plain_home : (k : ℕ) → k / 8 ≡ k % 8 → 0 ≡ plain_price k
plain_home k h = simp (eq-eqb (k / 8) (k % 8) h)

pub plain_away : (k : ℕ) → (k / 8 ≡ k % 8 → ⊥) → 1 ≡ plain_price k
plain_away k h = simp (ne_eqb (k / 8) (k % 8) h)

pub plain_whole : (out : List ℕ) → out ≡ map plain_price (below 64) → ◌≡◌ {A = Costs} (record { prices = out }) plain_costs
unfolding plain_costs
plain_whole out h = rw h

-- ---- one transfer

module _ (k : Costs) (sender receiver size price : ℕ) (f : price ≡ get_or k.prices (8 * sender + receiver) 0) where
  pub priced_small : Cheap k → size ≤ 2040000000 → size * price ≤ 2040000000
  priced_small c h = rw f (let g : size * get_or k.prices (8 * sender + receiver) 0 ≤ 2040000000 * 1 = mul-le-mul h (c (8 * sender + receiver)) in omega (arith, g))

  pub priced_is : size * price ≡ priced k sender receiver size
  unfolding priced
  priced_is = rw f

-- sizes, as something else gave their parts
pub cost_size : (p : Profile) (s : Step) (count width : ℕ) → count ≡ distinct_of p s.right → distinct_of p s.right ≤ 1000000 → width < 256
    → count * width ≤ 255000000
cost_size p s count width f h k = let l : width ≤ 255 = omega arith in rw f (mul-le-mul h l)

pub sent_size : (p : Profile) (r rows width : ℕ) → rows ≡ estimated_rows p r → width ≡ width_at p r → estimated_rows p r ≤ 1000000
    → width_at p r ≤ 2040 → rows * width ≤ 2040000000
sent_size p r rows width f g h k = rw (f, g) (mul-le-mul h k)

module _ (k : Costs) (e : Envelope) (p : Profile) where
  pub cost_is : (s : Step) (c : Column) (count sender receiver r : ℕ) → c ≡ column_of e s.right → count ≡ distinct_of p s.right
      → sender ≡ site_of e s.right.relation → receiver ≡ site_of e s.left.relation
      → r ≡ priced k sender receiver (count * c.width) → r ≡ step_cost k e p s
  unfolding step_cost
  cost_is s c count sender receiver r f g h i w = w ∙ rw (f, g, h, i)

  -- ---- assembly

  abbrev pub sent_to : ℕ → ℕ → ℕ
  sent_to site r = priced k (site_of e r) site (estimated_rows p r * width_at p r)

  pub sent_is : (site r rows width sender x : ℕ) → rows ≡ estimated_rows p r → width ≡ width_at p r → sender ≡ site_of e r
      → x ≡ priced k sender site (rows * width) → x ≡ sent_to site r
  sent_is site r rows width sender x f g h w = w ∙ rw (f, g, h)

  sent_small : Bounded k p → (site r : ℕ) → sent_to site r ≤ 2040000000
  unfolding priced
  sent_small b site r =
      let g : estimated_rows p r * width_at p r * get_or k.prices (8 * site_of e r + site) 0 ≤ 1000000 * 2040 * 1 =
      mul-le-mul (mul-le-mul (b.rows r) (b.widths r)) (b.prices (8 * site_of e r + site)) in
      omega (arith, g)

  pub sent_few : Bounded k p → (site r v : ℕ) → v ≡ sent_to site r → v ≤ 2040000000
  sent_few b site r v g = rw g (sent_small b site r)

pub record Assembling (k : Costs) (e : Envelope) (p : Profile) (site end i total : ℕ) : Type 0 where
  pub within : i ≤ end
  pub few : end ≤ 8
  pub used : end ≡ relation_count e
  pub small : total ≤ 2040000000 * i
  pub sum : Summing 2040000000 (sent_to k e p site) (below end) i total

module _ (k : Costs) (e : Envelope) (p : Profile) (site end : ℕ) where
  pub assembling_start : end ≡ relation_count e → Assembling k e p site end 0 0
  assembling_start u =
      record { within = omega arith; few = omega arith; used = u; small = omega arith; sum = summing_start 2040000000 (sent_to k e p site) (below end) }

  module _ (i total : ℕ) (a : Assembling k e p site end i total) where
    pub assembling_more : Bounded k p → i < end → (v : ℕ) → v ≡ sent_to k e p site i → Assembling k e p site end (i + 1) (total + v)
    assembling_more b l v g =
        let m : v ≤ 2040000000 = sent_few k e p b site i v g in
        record {
          within = omega arith;
          few = a.few;
          used = a.used;
          small = omega (arith, a.small);
          sum =
              summing_more 2040000000 (sent_to k e p site) (below end) i total a.sum 0 (omega (arith, below_length end)) v
              (g ∙ ap (sent_to k e p site) (sym (below_get_d end i 0 l)))
              m;
        }

    pub assembling_done : end ≤ i → total ≡ assembly_at k e p site
    unfolding assembly_at
    assembling_done h =
        summing_done 2040000000 (sent_to k e p site) (below end) i total a.sum (omega (arith, below_length end))
        ∙ ap (λ (n : ℕ). sum (map (sent_to k e p site) (below n))) a.used

-- ---- the benefit

module _ (e : Envelope) (p : Profile) (s : Step) where
  pub benefit_is : (width before after : ℕ) → width ≡ width_at p s.left.relation → before ≡ estimated_rows p s.left.relation
      → after ≡ rows_after e p s → width * (before - after) ≡ benefit e p s
  unfolding benefit
  benefit_is width before after f g h = rw (f, g, h)

  pub lost_most : (width before after : ℕ) → width ≡ width_at p s.left.relation → width_at p s.left.relation ≤ 2040
      → before ≡ estimated_rows p s.left.relation → estimated_rows p s.left.relation ≤ 1000000 → width * (before - after) ≤ 2040000000
  lost_most width before after f h g k =
      let l : before - after ≤ 1000000 = omega arith in
      let m : width ≤ 2040 = omega arith in
      mul-le-mul m l
