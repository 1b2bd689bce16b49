-- Laws of what holds of every element.
use mathlib.Core.Path.{◌≡◌, refl}
use mathlib.Core.Bool.{Bool}
use mathlib.Core.List.{List, [], ◌∷◌, ◌++◌, map, head-eq_of_cons-eq, tail-eq_of_cons-eq}
use mathlib.Core.List.Memᴰ
use mathlib.Core.List.{Memᴰ}
use mathlib.Core.Logic.{◌⊎◌, inl, inr}
use Prim.Native.Nat.{ℕ, zero, suc, ◌<◌, zero-le, suc-le-suc}
use lib.ListN.{length, get_or, take, replicate}
use Rattle.ground.specs.Lists.{filter, each, Every}
use Rattle.ground.proofs.ListLaws.{filter_from, get_d_mem}

module _ {A : Type 0} where
  pub every_map : (P Q : A → Type 0) (l : List A) → ((x : A) → P x → Q x) → Every P l → Every Q l
  every_map P Q [] f h = tt
  every_map P Q (x ∷ l) f h = (f x h.0, every_map P Q l f h.1)

  pub every_both : (P Q : A → Type 0) (l : List A) → Every P l → Every Q l → Every (λ (x : A). P x × Q x) l
  every_both P Q [] h k = tt
  every_both P Q (x ∷ l) h k = ((h.0, k.0), every_both P Q l h.1 k.1)

  module _ (P : A → Type 0) where
    pub every_append : (a b : List A) → Every P a → Every P b → Every P (a ++ b)
    every_append [] b h k = k
    every_append (x ∷ a) b h k = (h.0, every_append a b h.1 k)

    pub every_at : {x : A} (l : List A) → Every P l → Memᴰ x l → P x
    every_at [] h m = elim m [ ]
    every_at {x} (y ∷ l) h m = go (Memᴰ.cases_cons m) (every_at l h.1)
      where
        go : (x ≡ y) ⊎ Memᴰ x l → (Memᴰ x l → P x) → P x
        go (inl e) ih = rw e h.0
        go (inr k) ih = ih k

    pub every_of : (l : List A) → ((x : A) → Memᴰ x l → P x) → Every P l
    every_of [] h = tt
    every_of (x ∷ l) h = (h x (Memᴰ.head refl), every_of l (λ y m. h y (Memᴰ.tail m)))

    pub every_get_d : (l : List A) (i : ℕ) (d : A) → i < length l → Every P l → P (get_or l i d)
    every_get_d l i d h e = every_at l e (get_d_mem l i d h)

    pub every_index : (d : A) (l : List A) → ((i : ℕ) → i < length l → P (get_or l i d)) → Every P l
    every_index d [] h = tt
    every_index d (x ∷ l) h = (h 0 (suc-le-suc zero-le), every_index d l (λ i k. h (suc i) (suc-le-suc k)))

    pub every_take : (n : ℕ) (l : List A) → Every P l → Every P (take n l)
    every_take zero l h = tt
    every_take (suc n) [] h = tt
    every_take (suc n) (x ∷ l) h = (h.0, every_take n l h.1)

    pub every_replicate : (n : ℕ) (v : A) → P v → Every P (replicate n v)
    every_replicate zero v h = tt
    every_replicate (suc n) v h = (h, every_replicate n v h)

    pub every_filter : (p : A → Bool) (l : List A) → Every P l → Every P (filter p l)
    every_filter p l h = every_of (filter p l) λ x m. every_at l h (filter_from p l m).0

pub every_mapped : {A B : Type 0} (P : B → Type 0) (f : A → B) (l : List A) → Every (λ (x : A). P (f x)) l → Every P (map f l)
every_mapped P f [] h = tt
every_mapped P f (x ∷ l) h = (h.0, every_mapped P f l h.1)

-- what holds of each element and of what it is mapped to
pub every_back : {A B : Type 0} (f : A → B) (P R : A → Type 0) (Q : B → Type 0) → ((x : A) → P x → Q (f x) → R x) → (l : List A)
    → Every P l → Every Q (map f l) → Every R l
every_back f P R Q g [] h k = tt
every_back f P R Q g (x ∷ l) h k = (g x h.0 k.0, every_back f P R Q g l h.1 k.1)

pub every_each : {A B : Type 0} (P : B → Type 0) (f : A → List B) → ((x : A) → Every P (f x)) → (l : List A) → Every P (each f l)
every_each P f h [] = tt
every_each P f h (x ∷ l) = every_append P (f x) (each f l) (h x) (every_each P f h l)

-- ---- elements that a function leaves as they are

pub map_fixed : {A : Type 0} (f : A → A) (l : List A) → Every (λ (x : A). f x ≡ x) l → map f l ≡ l
map_fixed f [] h = refl
map_fixed f (x ∷ l) h = rw (h.0, map_fixed f l h.1)

pub fixed_map : {A : Type 0} (f : A → A) (l : List A) → map f l ≡ l → Every (λ (x : A). f x ≡ x) l
fixed_map f [] e = tt
fixed_map f (x ∷ l) e = (head-eq_of_cons-eq e, fixed_map f l (tail-eq_of_cons-eq e))
