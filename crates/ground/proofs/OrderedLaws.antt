-- A law of lists in order: such a list is known by its elements.
use mathlib.Core.Path.{◌≡◌, refl, sym, ap₂, ◌∙◌}
use mathlib.Core.List.Memᴰ
use mathlib.Core.List.{List, [], ◌∷◌, Memᴰ}
use mathlib.Core.Logic.{◌⊎◌, inl, inr}
use Rattle.ground.specs.Order.{Ordered}
use Rattle.ground.proofs.EveryLaws.{every_at}

module _ {A : Type 0} (Before : A → A → Type 0) (one_way : (x y : A) → Before x y → Before y x → ⊥) where
  -- what stands behind a first element is behind whatever is equal to it
  behind : (x y : A) (l k : List A) → Ordered Before (x ∷ l) → x ≡ y → (z : A) → Memᴰ z l → (z ≡ y) ⊎ Memᴰ z k → Memᴰ z k
  behind x y l k o e z m (inl f) =
      let b : Before x z = every_at (Before x) l o.0 m in
      absurd (one_way x x (rw (f ∙ sym e) at b) (rw (f ∙ sym e) at b))
  behind x y l k o e z m (inr n) = n

  pub ordered_same : (l k : List A) → Ordered Before l → Ordered Before k → ((z : A) → Memᴰ z l → Memᴰ z k)
      → ((z : A) → Memᴰ z k → Memᴰ z l) → l ≡ k
  ordered_same [] [] o q f g = refl
  ordered_same [] (y ∷ k) o q f g = absurd (Memᴰ.not-nil (g y (Memᴰ.head refl)))
  ordered_same (x ∷ l) [] o q f g = absurd (Memᴰ.not-nil (f x (Memᴰ.head refl)))
  ordered_same (x ∷ l) (y ∷ k) o q f g =
      let e : x ≡ y = first (Memᴰ.cases_cons (f x (Memᴰ.head refl))) (Memᴰ.cases_cons (g y (Memᴰ.head refl))) in
      ap₂ (λ (a : A) (r : List A). a ∷ r) e
      (ordered_same l k o.1 q.1
      (λ z m. behind x y l k o e z m (Memᴰ.cases_cons (f z (Memᴰ.tail m))))
      (λ z m. behind y x k l q (sym e) z m (Memᴰ.cases_cons (g z (Memᴰ.tail m)))))
    where
      first : (x ≡ y) ⊎ Memᴰ x k → (y ≡ x) ⊎ Memᴰ y l → x ≡ y
      first (inl e) n = e
      first (inr m) (inl e) = sym e
      first (inr m) (inr n) = absurd (one_way x y (every_at (Before x) l o.0 n) (every_at (Before y) k q.0 m))
