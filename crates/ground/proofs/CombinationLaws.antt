-- Combinations of one element from each list: what they consist of, and that to filter or map the lists is to filter or
-- map the combinations.
use mathlib.Core.Path.{◌≡◌, refl, sym, ap, ap₂, ◌∙◌}
use mathlib.Core.Bool.{Bool, true, false}
use mathlib.Core.List.Memᴰ
use mathlib.Core.List.{List, [], ◌∷◌, ◌++◌, map, Memᴰ, map-append}
use Prim.Native.Nat.{ℕ, zero, suc, ◌<◌}
use native.Mathlib.Nat.{le_of_suc-le-suc, not-suc-le-zero}
use lib.ListN.{length, get_or}
use Rattle.ground.specs.Lists.{cons_if, filter, all, each, combinations}
use Rattle.ground.proofs.ListLaws.{filter_append, filter_map, filter_none, each_from, map_from}

module _ {A : Type 0} where
  from : (t : List A) (ts : List (List A)) {c : List A} → Memᴰ c (combinations (t ∷ ts))
      → (x : A) × (k : List A) × Memᴰ x t × Memᴰ k (combinations ts) × (c ≡ x ∷ k)
  from t ts m =
      let (x, mx, mc) = each_from (λ (x : A). map (λ (k : List A). x ∷ k) (combinations ts)) t m in
      let (k, mk, e) = map_from (λ (k : List A). x ∷ k) (combinations ts) mc in
      (x, k, mx, mk, e)

  -- a combination's elements come from the lists
  pub combinations_from_lem : (d : A) (ts : List (List A)) {c : List A} (i : ℕ) → i < length ts → Memᴰ c (combinations ts)
      → Memᴰ (get_or c i d) (get_or ts i [])
  combinations_from_lem d [] i h m = absurd (not-suc-le-zero h)
  combinations_from_lem d (t ∷ ts) zero h m = let (x, k, mx, mk, e) = from t ts m in Memᴰ.cast (ap (λ (c : List A). get_or c 0 d) e) mx
  combinations_from_lem d (t ∷ ts) (suc i) h m =
      let (x, k, mx, mk, e) = from t ts m in
      Memᴰ.cast (ap (λ (c : List A). get_or c (suc i) d) e) (combinations_from_lem d ts i (le_of_suc-le-suc h) mk)

  pub combinations_length : (ts : List (List A)) {c : List A} → Memᴰ c (combinations ts) → length c ≡ length ts
  combinations_length [] m = ap length (Memᴰ.eq_of_singleton m)
  combinations_length (t ∷ ts) m = let (x, k, mx, mk, e) = from t ts m in ap length e ∙ ap suc (combinations_length ts mk)

  -- to filter all lists by one test is to filter the combinations by it
  pub combinations_filters : (p : A → Bool) (ts : List (List A)) → combinations (map (filter p) ts) ≡ filter (all p) (combinations ts)
  combinations_filters p [] = refl
  combinations_filters p (t ∷ ts) = rw (combinations_filters p ts) (go t)
    where
      few : A → List (List A)
      few x = map (λ (c : List A). x ∷ c) (filter (all p) (combinations ts))

      every : A → List (List A)
      every x = map (λ (c : List A). x ∷ c) (combinations ts)

      go : (l : List A) → each few (filter p l) ≡ filter (all p) (each every l)
      go [] = refl
      go (x ∷ l) = one (p x) refl (go l)
        where
          one : (b : Bool) → p x ≡ b → each few (filter p l) ≡ filter (all p) (each every l)
              → each few (cons_if b x (filter p l)) ≡ filter (all p) (every x ++ each every l)
          one true e ih = rw (filter_append, filter_map, e, ih)
          one false e ih = rw (filter_append, filter_map, e, filter_none, ih)

module _ {A B : Type 0} (f : A → B) where
  pub combinations_map : (ts : List (List A)) → combinations (map (map f) ts) ≡ map (map f) (combinations ts)
  combinations_map [] = refl
  combinations_map (t ∷ ts) = rw (combinations_map ts) (go t)
    where
      one : (x : A) (cs : List (List A)) → map (λ (c : List B). f x ∷ c) (map (map f) cs) ≡ map (map f) (map (λ (c : List A). x ∷ c) cs)
      one x [] = refl
      one x (c ∷ cs) = rw (one x cs)

      go : (l : List A) → each (λ (y : B). map (λ (c : List B). y ∷ c) (map (map f) (combinations ts))) (map f l)
          ≡ map (map f) (each (λ (x : A). map (λ (c : List A). x ∷ c) (combinations ts)) l)
      go [] = refl
      go (x ∷ l) =
          ap₂ ◌++◌ (one x (combinations ts)) (go l)
          ∙ sym (map-append (map f) (map (λ (c : List A). x ∷ c) (combinations ts))
          (each (λ (y : A). map (λ (c : List A). y ∷ c) (combinations ts)) l))
