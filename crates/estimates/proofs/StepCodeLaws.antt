-- The laws that the code of selections and steps goes by: what each return answers, and that its numbers have a bound.
use mathlib.Core.Path.{◌≡◌, ◌∙◌}
use Prim.Native.Nat.{ℕ, ◌*◌, ◌≤◌, zero-le}
use native.Mathlib.Nat.{mul-le-mul, mul-le-mul_left}
use native.Mathlib.Omega.{arith}
use mathlib.Core.List.{List}
use lib.ListN.{get_or}
use borrow.Author.Tests.{eq-eqb, ne_eqb}
use Rattle.ground.proofs.CountLaws.{split}
use Rattle.entries.specs.declared.places.Place.{Place}
use Rattle.contents.specs.declared.envelope.Envelope.{Envelope}
use Rattle.paths.specs.declared.steps.Step.{Step}
use Rattle.estimates.specs.Division.{over}
use Rattle.estimates.specs.Columns.{domain_size}
use Rattle.estimates.specs.Profile.{estimated_rows, distinct_of, shrunk, after_selection, remaining, rows_after, count_after, after_step}
use Rattle.estimates.specs.Ready.{Low}
use Rattle.estimates.specs.declared.profiles.Profile.{Profile}
use Rattle.estimates.proofs.DivisionLaws.{over_none, over_most}

-- two numbers of a profile, as something else gave them, multiplied
pub product_most : (a b x y : ℕ) → a ≡ x → b ≡ y → x ≤ 1000000 → y ≤ 1000000 → a * b ≤ 1000000000000
product_most a b x y f g h k = rw (f, g) (mul-le-mul h k)

pub over_itself : (x d : ℕ) → over x d ≤ x
over_itself x d =
    split 1 d
    (λ l. over_most x x d (omega (arith, mul-le-mul_left x l)))
    (λ l. let z : d ≡ 0 = omega arith in rw (z, over_none x) zero-le)

-- a number of a profile, as something else gave it
pub low_at : (l : List ℕ) (i n : ℕ) → n ≡ get_or l i 0 → Low l → n ≤ 1000000
low_at l i n f h = rw f (h i)

module _ (e : Envelope) (p : Profile) (s : Step) where
  pub remaining_is : (count size : ℕ) → count ≡ distinct_of p s.right → size ≡ domain_size e s.left → (n r : ℕ) → r ≡ over (n * count) size
      → r ≡ remaining e p s n
  remaining_is count size f g n r k = k ∙ rw (f, g)

  pub rows_after_is : (rows r : ℕ) → rows ≡ estimated_rows p s.left.relation → r ≡ remaining e p s rows → r ≡ rows_after e p s
  unfolding rows_after
  rows_after_is rows r h k = k ∙ rw h

  pub count_after_is : (count r : ℕ) → count ≡ distinct_of p s.left → r ≡ remaining e p s count → r ≡ count_after e p s
  unfolding count_after
  count_after_is count r h k = k ∙ rw h

module _ (p : Profile) (a : Place) (rows count n : ℕ) (f : rows ≡ estimated_rows p a.relation) (g : count ≡ distinct_of p a) (h : n ≡ over rows count) where
  pub selection_most : estimated_rows p a.relation ≤ 1000000 → n ≤ 1000000
  selection_most k = omega (arith, h, f, k, over_itself rows count)

  module _ (q : Profile) where
    pub selection_none : n ≡ 0 → q ≡ shrunk p a n 0 → q ≡ after_selection p a
    unfolding after_selection
    selection_none z k = k ∙ rw (← f, ← g, ← h, eq-eqb n 0 z)

    pub selection_some : (n ≡ 0 → ⊥) → q ≡ shrunk p a n 1 → q ≡ after_selection p a
    unfolding after_selection
    selection_some z k = k ∙ rw (← f, ← g, ← h, ne_eqb n 0 z)

pub step_is : (e : Envelope) (p q : Profile) (s : Step) (rows count : ℕ) → rows ≡ rows_after e p s → count ≡ count_after e p s
    → q ≡ shrunk p s.left rows count → q ≡ after_step e p s
unfolding after_step
step_is e p q s rows count f g h = h ∙ rw (f, g)
