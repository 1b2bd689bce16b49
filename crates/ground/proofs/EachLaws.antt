-- Laws of each element's list joined: of those elements that pass, and of lists joined twice.
use mathlib.Core.Path.{◌≡◌, refl, ap, ◌∙◌}
use mathlib.Core.Bool.{Bool, true, false, not}
use mathlib.Core.List.{List, [], ◌∷◌, ◌++◌, map, map-append}
use Rattle.ground.specs.Tests.{pick}
use Rattle.ground.specs.Lists.{cons_if, filter, each}
use Rattle.ground.proofs.ListLaws.{each_append}

module _ {A B : Type 0} where
  -- without those that a test picks out: all, some with an empty list
  pub each_without : (p : A → Bool) (f : A → List B) (l : List A) → each f (filter (λ (x : A). not (p x)) l) ≡ each (λ (x : A). pick (p x) [] (f x)) l
  each_without p f [] = refl
  each_without p f (x ∷ l) = go (p x) (each_without p f l)
    where
      go : (b : Bool) → each f (filter (λ (y : A). not (p y)) l) ≡ each (λ (y : A). pick (p y) [] (f y)) l
          → each f (cons_if (not b) x (filter (λ (y : A). not (p y)) l)) ≡ pick b [] (f x) ++ each (λ (y : A). pick (p y) [] (f y)) l
      go true e = e
      go false e = ap (λ (w : List B). f x ++ w) e

  module _ {C : Type 0} where
    pub map_each : (g : B → C) (f : A → List B) (l : List A) → map g (each f l) ≡ each (λ (x : A). map g (f x)) l
    map_each g f [] = refl
    map_each g f (x ∷ l) = map-append g (f x) (each f l) ∙ ap (λ (w : List C). map g (f x) ++ w) (map_each g f l)

    pub each_each : (g : B → List C) (f : A → List B) (l : List A) → each g (each f l) ≡ each (λ (x : A). each g (f x)) l
    each_each g f [] = refl
    each_each g f (x ∷ l) = each_append g (f x) (each f l) ∙ ap (λ (w : List C). each g (f x) ++ w) (each_each g f l)

pub each_pick : {B C : Type 0} (g : B → List C) (b : Bool) (l : List B) → each g (pick b [] l) ≡ pick b [] (each g l)
each_pick g true l = refl
each_pick g false l = refl
