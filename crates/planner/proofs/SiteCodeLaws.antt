-- The laws that the code of the cheapest site goes by: the loop keeps the site that it has unless the next that holds a
-- relation costs less.
use mathlib.Core.Path.{◌≡◌, refl, ap, ◌∙◌}
use mathlib.Core.Bool.{Bool, true, false}
use mathlib.Core.List.{List, [], ◌∷◌, ◌++◌, append-nil}
use mathlib.Core.Logic.{◌⊎◌, inl, inr}
use mathlib.Core.Option.{Option, none, some}
use Prim.Native.Nat.{ℕ, ◌+◌, ◌≤◌, ◌<◌}
use native.Mathlib.Omega.{arith}
use borrow.Author.Tests.{lt-ltb, le-ltb}
use lib.Dec.{ltb}
use Rattle.ground.specs.Tests.{pick}
use Rattle.ground.specs.Lists.{Every, filter, below, numbers_from}
use Rattle.ground.proofs.CountLaws.{split}
use Rattle.ground.proofs.NumbersLaws.{filter_below}
use Rattle.contents.specs.Sites.{holds}
use Rattle.contents.specs.declared.envelope.Envelope.{Envelope}
use Rattle.paths.specs.Steps.{legal}
use Rattle.paths.specs.declared.steps.Step.{Step}
use Rattle.estimates.specs.Profile.{local_profile}
use Rattle.estimates.specs.Costs.{assembly_at}
use Rattle.estimates.specs.Kind.{Kind, after_all}
use Rattle.planner.specs.Choice.{cheaper, cheapest}
use Rattle.estimates.specs.Estimate.{kind_of}
use Rattle.planner.specs.Plan.{site_for}
use Rattle.estimates.specs.Ready.{Ready}
use Rattle.estimates.specs.Ready.{Bounded}
use Rattle.estimates.specs.declared.profiles.Profile.{Profile}
use Rattle.estimates.specs.declared.costs.Costs.{Costs}
use Rattle.estimates.proofs.ProfileLaws.{Inside, local_inside}
use Rattle.estimates.proofs.CostLaws.{assembly_most, after_inside}
use Rattle.estimates.proofs.BoundCodeLaws.{inside_bounded}

-- ---- the first of least assembly, one more at the end

module _ {P S : Type 0} (k : Kind P S) (p : P) where
  -- what was chosen before a: it stays unless a costs less
  abbrev or_cheaper : Option ℕ → ℕ → Option ℕ
  or_cheaper none a = some a
  or_cheaper (some b) a = pick (ltb (k.assembly p a) (k.assembly p b)) (some a) (some b)

  cheaper_later : (w a : ℕ) (o : Option ℕ) → cheaper k p w (or_cheaper o a) ≡ or_cheaper (cheaper k p w o) a
  cheaper_later w a none = refl
  cheaper_later w a (some b) =
      split (k.assembly p b) (k.assembly p a)
      (λ h. rw (le-ltb (k.assembly p a) (k.assembly p b) h)
      (split (k.assembly p w) (k.assembly p b)
      (λ i. rw (le-ltb (k.assembly p b) (k.assembly p w) i, le-ltb (k.assembly p a) (k.assembly p w) (omega arith)))
      (λ i. rw (lt-ltb (k.assembly p b) (k.assembly p w) i, le-ltb (k.assembly p a) (k.assembly p b) h))))
      (λ h. rw (lt-ltb (k.assembly p a) (k.assembly p b) h)
      (split (k.assembly p w) (k.assembly p b)
      (λ i. rw (le-ltb (k.assembly p b) (k.assembly p w) i))
      (λ i.
      rw (
        lt-ltb (k.assembly p b) (k.assembly p w) i,
        lt-ltb (k.assembly p a) (k.assembly p b) h,
        lt-ltb (k.assembly p a) (k.assembly p w) (omega arith),
      ))))

  cheapest_later : (l : List ℕ) (a : ℕ) → cheapest k p (l ++ (a ∷ [])) ≡ or_cheaper (cheapest k p l) a
  cheapest_later [] a = refl
  cheapest_later (w ∷ l) a = ap (cheaper k p w) (cheapest_later l a) ∙ cheaper_later w a (cheapest k p l)

-- ---- one site

-- above what assembly costs
abbrev top : ℕ
top = 16320000001

abbrev pub held_assembly : Costs → Envelope → Profile → ℕ → ℕ
held_assembly k e p site = pick (holds e site) (assembly_at k e p site) top

module _ (k : Costs) (e : Envelope) (p : Profile) (site : ℕ) (b : Bool) (f : b ≡ holds e site) where
  pub held_there : b ≡ true → (v : ℕ) → v ≡ assembly_at k e p site → v ≡ held_assembly k e p site
  held_there t v g = g ∙ rw (← f, t)

  pub held_nowhere : b ≡ false → top ≡ held_assembly k e p site
  held_nowhere t = rw (← f, t)

-- ---- the loop: of the sites below i that hold a relation the first of least assembly, with what that costs

module _ (k : Costs) (e : Envelope) (p : Profile) where
  abbrev Held : Option ℕ → ℕ → ℕ → Type 0
  Held o best least = ((o ≡ none) × (best ≡ 0) × (least ≡ top)) ⊎ ((o ≡ some best) × (least ≡ assembly_at k e p best))

  abbrev chosen_below : ℕ → Option ℕ
  chosen_below i = cheapest (kind_of k e) p (filter (holds e) (below i))

  below_held : (i : ℕ) → holds e i ≡ true → chosen_below (i + 1) ≡ or_cheaper (kind_of k e) p (chosen_below i) i
  below_held i t =
      let l : filter (holds e) (below (i + 1)) ≡ filter (holds e) (below i) ++ (i ∷ []) = filter_below (holds e) i ∙ rw t in
      ap (cheapest (kind_of k e) p) l ∙ cheapest_later (kind_of k e) p (filter (holds e) (below i)) i

  below_bare : (i : ℕ) → holds e i ≡ false → chosen_below (i + 1) ≡ chosen_below i
  below_bare i t =
      let l : filter (holds e) (below (i + 1)) ≡ filter (holds e) (below i) =
      filter_below (holds e) i ∙ rw t (append-nil (filter (holds e) (below i))) in
      ap (cheapest (kind_of k e) p) l

  module _ (small : (site : ℕ) → assembly_at k e p site < top) where
    held_most : (o : Option ℕ) (best least : ℕ) → Held o best least → least ≤ top
    held_most o best least (inl (_, _, t)) = omega arith
    held_most o best least (inr (_, t)) = omega (arith, small best)

    held_take : (o : Option ℕ) (best least : ℕ) → Held o best least → (i : ℕ) → assembly_at k e p i < least
        → Held (or_cheaper (kind_of k e) p o i) i (assembly_at k e p i)
    held_take o best least (inl (f, _, _)) i h = inr (rw f, refl)
    held_take o best least (inr (f, g)) i h = inr (rw (f, lt-ltb (assembly_at k e p i) (assembly_at k e p best) (omega arith)), refl)

    held_stay : (o : Option ℕ) (best least : ℕ) → Held o best least → (i : ℕ) → least ≤ assembly_at k e p i
        → Held (or_cheaper (kind_of k e) p o i) best least
    held_stay o best least (inl (_, _, t)) i h = absurd (omega (arith, small i))
    held_stay o best least (inr (f, g)) i h = inr (rw (f, le-ltb (assembly_at k e p i) (assembly_at k e p best) (omega arith)), g)

pub record Siting (k : Costs) (e : Envelope) (p : Profile) (i best least : ℕ) : Type 0 where
  pub within : i ≤ 8
  pub held : Held k e p (chosen_below k e p i) best least

module _ (k : Costs) (e : Envelope) (p : Profile) where
  pub siting_start : Siting k e p 0 0 16320000001
  unfolding numbers_from
  siting_start = record { within = omega arith; held = inl (refl, refl, refl) }

  module _ (i best least : ℕ) (s : Siting k e p i best least) where
    module _ (small : (site : ℕ) → assembly_at k e p site < 16320000001) (h : i < 8) (v : ℕ) (f : v ≡ held_assembly k e p i) where
      pub siting_take : v < least → (best' least' : ℕ) → best' ≡ i → least' ≡ v → Siting k e p (i + 1) best' least'
      siting_take l best' least' g j = rw (g, j) (go (holds e i) refl)
        where
          go : (b : Bool) → holds e i ≡ b → Siting k e p (i + 1) i v
          go true t =
              let u : v ≡ assembly_at k e p i = f ∙ rw t in
              record {
                within = omega arith;
                held = rw (below_held k e p i t, u) (held_take k e p small (chosen_below k e p i) best least s.held i (omega (arith, u)));
              }
          go false t =
              let u : v ≡ top = f ∙ rw t in
              absurd (omega (arith, u, held_most k e p small (chosen_below k e p i) best least s.held))

      pub siting_stay : least ≤ v → (best' least' : ℕ) → best' ≡ best → least' ≡ least → Siting k e p (i + 1) best' least'
      siting_stay l best' least' g j = rw (g, j) (go (holds e i) refl)
        where
          go : (b : Bool) → holds e i ≡ b → Siting k e p (i + 1) best least
          go true t =
              let u : v ≡ assembly_at k e p i = f ∙ rw t in
              record {
                within = omega arith;
                held = rw (below_held k e p i t) (held_stay k e p small (chosen_below k e p i) best least s.held i (omega (arith, u)));
              }
          go false t = record { within = omega arith; held = rw (below_bare k e p i t) s.held }

    pub siting_done : 8 ≤ i → best ≡ site_for k e p
    unfolding site_for
    siting_done h =
        let n : i ≡ 8 = omega (arith, s.within) in
        go (chosen_below k e p 8) (ap (chosen_below k e p) n) s.held
      where
        go : (o : Option ℕ) → chosen_below k e p i ≡ o → Held k e p (chosen_below k e p i) best least → best ≡ elim o [ none ↦ 0 | some site ↦ site ]
        go none q (inl (_, z, _)) = z
        go none q (inr (f, _)) = let z : ◌≡◌ {A = ℕ} 0 1 = cc in absurd (omega arith)
        go (some a) q (inl (f, _, _)) = let z : ◌≡◌ {A = ℕ} 0 1 = cc in absurd (omega arith)
        go (some a) q (inr (f, _)) = cc

-- ---- the profiles for which a site is looked for: what legal steps leave

module _ (k : Costs) (e : Envelope) (local : Profile) (ready : Ready k e local) where
  pub inside_sited : (p : Profile) → Inside e p → Bounded k p × ((site : ℕ) → assembly_at k e p site < 16320000001)
  inside_sited p i =
      (inside_bounded k e local ready p i, λ site. omega (arith, assembly_most e ready.within k 1 ready.cheap site p i))

  pub local_sited : Bounded k local × ((site : ℕ) → assembly_at k e local site < 16320000001)
  local_sited = inside_sited local (rw ready.local (local_inside e))

  pub after_sited : (p : Profile) (ss : List Step) → p ≡ after_all (kind_of k e) (local_profile e) ss → Every (λ (s : Step). legal e s ≡ true) ss
      → Bounded k p × ((site : ℕ) → assembly_at k e p site < 16320000001)
  after_sited p ss f t = inside_sited p (rw f (after_inside e ready.within k (local_profile e) ss (local_inside e) t))
