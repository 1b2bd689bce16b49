-- Laws of lists in order: what is joined, filtered or mapped from lists in order is in order itself. Numbers counted up
-- and rising lists are in order.
use mathlib.Core.Path.{refl}
use mathlib.Core.Bool.{Bool, true, false}
use mathlib.Core.List.Memᴰ
use mathlib.Core.List.{List, [], ◌∷◌, ◌++◌, map, Memᴰ}
use mathlib.Core.Logic.{◌⊎◌, inl, inr}
use Prim.Native.Nat.{ℕ, zero, suc, ◌+◌, ◌<◌}
use native.Mathlib.Omega.{arith}
use Rattle.ground.specs.Lists.{cons_if, filter, each, numbers_from}
use Rattle.ground.specs.Rising.{Rises}
use Rattle.ground.specs.Order.{Ordered}
use Rattle.ground.proofs.RisingLaws.{rises_least}
use Rattle.ground.proofs.ListLaws.{each_from}
use Rattle.ground.proofs.EveryLaws.{every_at, every_of, every_map, every_mapped, every_filter}
use Rattle.ground.proofs.NumbersLaws.{numbers_from_lem}

module _ {A : Type 0} (Before : A → A → Type 0) where
  pub ordered_append : (l k : List A) → Ordered Before l → Ordered Before k → ((x y : A) → Memᴰ x l → Memᴰ y k → Before x y)
      → Ordered Before (l ++ k)
  ordered_append [] k a b h = b
  ordered_append (x ∷ l) k a b h = (
    every_of (Before x) (l ++ k) (λ y m. go y (Memᴰ.append_cases l m)),
    ordered_append l k a.1 b (λ y z m n. h y z (Memᴰ.tail m) n),
  )
    where
      go : (y : A) → Memᴰ y l ⊎ Memᴰ y k → Before x y
      go y (inl m) = every_at (Before x) l a.0 m
      go y (inr m) = h x y (Memᴰ.head refl) m

  pub ordered_filter : (p : A → Bool) (l : List A) → Ordered Before l → Ordered Before (filter p l)
  ordered_filter p [] h = tt
  ordered_filter p (x ∷ l) h = go (p x) (ordered_filter p l h.1)
    where
      go : (b : Bool) → Ordered Before (filter p l) → Ordered Before (cons_if b x (filter p l))
      go true k = (every_filter (Before x) p l h.0, k)
      go false k = k

module _ {A B : Type 0} (Before : A → A → Type 0) (After : B → B → Type 0) where
  pub ordered_map : (f : A → B) → ((x y : A) → Before x y → After (f x) (f y)) → (l : List A) → Ordered Before l → Ordered After (map f l)
  ordered_map f h [] o = tt
  ordered_map f h (x ∷ l) o =
      (every_mapped (After (f x)) f l (every_map (Before x) (λ (y : A). After (f x) (f y)) l (h x) o.0), ordered_map f h l o.1)

  -- lists in order, one after the other
  pub ordered_each : (f : A → List B) (l : List A) → Ordered Before l → ((x : A) → Memᴰ x l → Ordered After (f x))
      → ((x y : A) (a b : B) → Before x y → Memᴰ a (f x) → Memᴰ b (f y) → After a b) → Ordered After (each f l)
  ordered_each f [] o h k = tt
  ordered_each f (x ∷ l) o h k =
      ordered_append After (f x) (each f l) (h x (Memᴰ.head refl)) (ordered_each f l o.1 (λ y m. h y (Memᴰ.tail m)) k)
      λ a b m n. let (y, i, j) = each_from f l n in k x y a b (every_at (Before x) l o.0 i) m j

pub numbers_ordered : (i n : ℕ) → Ordered ◌<◌ (numbers_from i n)
unfolding numbers_from
numbers_ordered i zero = tt
numbers_ordered i (suc n) =
    (every_of _ (numbers_from (i + 1) n) (λ k m. omega (arith, (numbers_from_lem (i + 1) n m).0)), numbers_ordered (i + 1) n)

-- a rising list is in order
pub rises_ordered : (low : ℕ) (l : List ℕ) → Rises low l → Ordered ◌<◌ l
rises_ordered low [] h = tt
rises_ordered low (x ∷ l) h =
    (every_of _ l (λ y m. omega (arith, rises_least (x + 1) l h.1 m)), rises_ordered (x + 1) l h.1)
