-- Laws of lists: what is shorter by an element, what holds of a part of a list that keeps its order, and what the first of
-- greatest gain is among the elements of a list in order.
use mathlib.Core.Path.{◌≡◌, refl, sym, ap, ◌∙◌}
use mathlib.Core.Bool.{Bool, true, false, false≢true}
use mathlib.Core.List.Memᴰ
use mathlib.Core.List.{List, [], ◌∷◌, ◌++◌, map, Memᴰ}
use mathlib.Core.List.{Sublistᴰ}
use mathlib.Core.Logic.{◌⊎◌, inl, inr}
use Prim.Native.Nat.{ℕ, suc, ◌≤◌, ◌<◌}
use native.Mathlib.Nat.{le_refl}
use native.Mathlib.Omega.{arith}
use lib.ListN.{length}
use Rattle.ground.specs.Lists.{cons_if, filter}
use Rattle.ground.specs.Order.{Ordered}
use Rattle.ground.proofs.CountLaws.{split}
use Rattle.ground.proofs.ListLaws.{filter_length}
use Rattle.ground.proofs.EveryLaws.{every_at, every_of}
use Rattle.ground.proofs.ChoiceLaws.{First}

module _ {A : Type 0} where
  -- without an element a list is shorter
  pub fewer : (p : A → Bool) {x : A} (l : List A) → Memᴰ x l → p x ≡ false → length (filter p l) < length l
  fewer p [] m t = elim m [ ]
  fewer p {x} (y ∷ l) m t = go (p y) refl (Memᴰ.cases_cons m) (fewer p l)
    where
      go : (b : Bool) → p y ≡ b → (x ≡ y) ⊎ Memᴰ x l → (Memᴰ x l → p x ≡ false → length (filter p l) < length l)
          → length (cons_if b y (filter p l)) < suc (length l)
      go true e (inl q) ih = absurd (false≢true (sym t ∙ ap p q ∙ e))
      go true e (inr n) ih = omega (arith, ih n t)
      go false e q ih = omega (arith, filter_length p l)

  pub filter_part : (p : A → Bool) (l : List A) → Sublistᴰ (filter p l) l
  filter_part p [] = Sublistᴰ.slnil
  filter_part p (x ∷ l) = go (p x) (filter_part p l)
    where
      go : (b : Bool) → Sublistᴰ (filter p l) l → Sublistᴰ (cons_if b x (filter p l)) (x ∷ l)
      go true h = Sublistᴰ.cons-cons refl h
      go false h = Sublistᴰ.cons h

  pub part_mem : {x : A} {l k : List A} → Sublistᴰ l k → Memᴰ x l → Memᴰ x k
  part_mem Sublistᴰ.slnil m = m
  part_mem (Sublistᴰ.cons h) m = Memᴰ.tail (part_mem h m)
  part_mem {x} (Sublistᴰ.cons-cons {a} {b} {l₁} {l₂} e h) m = go (Memᴰ.cases_cons m) (part_mem h)
    where
      go : (x ≡ a) ⊎ Memᴰ x l₁ → (Memᴰ x l₁ → Memᴰ x l₂) → Memᴰ x (b ∷ l₂)
      go (inl q) ih = Memᴰ.head (q ∙ e)
      go (inr n) ih = Memᴰ.tail (ih n)

  pub sublist_length : {l k : List A} → Sublistᴰ l k → length l ≤ length k
  sublist_length Sublistᴰ.slnil = le_refl 0
  sublist_length (Sublistᴰ.cons h) = omega (arith, sublist_length h)
  sublist_length (Sublistᴰ.cons-cons e h) = omega (arith, sublist_length h)

  pub part_ordered : (Before : A → A → Type 0) {l k : List A} → Sublistᴰ l k → Ordered Before k → Ordered Before l
  part_ordered Before Sublistᴰ.slnil o = tt
  part_ordered Before (Sublistᴰ.cons h) o = part_ordered Before h o.1
  part_ordered Before (Sublistᴰ.cons-cons {a} {b} {l₁} {l₂} e h) o =
      (every_of (Before a) l₁ (λ x m. rw e (every_at (Before b) l₂ o.0 (part_mem h m))), part_ordered Before h o.1)

  pub part_map : {B : Type 0} (f : A → B) {l k : List A} → Sublistᴰ l k → Sublistᴰ (map f l) (map f k)
  part_map f Sublistᴰ.slnil = Sublistᴰ.slnil
  part_map f (Sublistᴰ.cons h) = Sublistᴰ.cons (part_map f h)
  part_map f (Sublistᴰ.cons-cons e h) = Sublistᴰ.cons-cons (ap f e) (part_map f h)

  pub ordered_behind : (Before : A → A → Type 0) (a b : List A) → Ordered Before (a ++ b) → Ordered Before b
  ordered_behind Before [] b o = o
  ordered_behind Before (y ∷ a) b o = ordered_behind Before a b o.1

  module _ (gain : A → ℕ) {l : List A} {y : A} (f : First gain l y) where
    pub first_mem : Memᴰ y l
    first_mem = rw f.stands (Memᴰ.append_right f.before (Memᴰ.head refl))

    -- any other gains less, or the same and comes later
    pub first_before : (Before : A → A → Type 0) → Ordered Before l → {x : A} → Memᴰ x l
        → (x ≡ y) ⊎ ((gain x < gain y) ⊎ ((gain x ≡ gain y) × Before y x))
    first_before Before o {x} m = go (Memᴰ.append_cases f.before (rw f.stands at m))
      where
        later : Memᴰ x f.behind → (gain x < gain y) ⊎ ((gain x ≡ gain y) × Before y x)
        later n =
            let h : gain x ≤ gain y = every_at (λ (z : A). gain z ≤ gain y) f.behind f.no_greater n in
            let b : Before y x = every_at (Before y) f.behind (ordered_behind Before f.before (y ∷ f.behind) (rw f.stands at o)).0 n in
            split (gain y) (gain x) (λ q. inr (omega arith, b)) (λ q. inl q)

        from_here : (x ≡ y) ⊎ Memᴰ x f.behind → (x ≡ y) ⊎ ((gain x < gain y) ⊎ ((gain x ≡ gain y) × Before y x))
        from_here (inl e) = inl e
        from_here (inr n) = inr (later n)

        go : Memᴰ x f.before ⊎ Memᴰ x (y ∷ f.behind) → (x ≡ y) ⊎ ((gain x < gain y) ⊎ ((gain x ≡ gain y) × Before y x))
        go (inl n) = inr (inl (every_at (λ (z : A). gain z < gain y) f.before f.smaller n))
        go (inr n) = from_here (Memᴰ.cases_cons n)
