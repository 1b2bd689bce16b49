-- Laws of lists: tests of all and of some against membership, the elements that pass, each element's list joined.
use mathlib.Core.Path.{◌≡◌, refl, sym, ap, ◌∙◌}
use mathlib.Core.Bool.{Bool, true, false, ◌&&◌, ◌||◌, not, false≢true}
use mathlib.Core.List.{List, [], ◌∷◌, ◌++◌, map, append_assoc}
use mathlib.Core.List.Memᴰ
use mathlib.Core.List.{Memᴰ}
use mathlib.Core.List.{append-nil, map-append}
use mathlib.Core.Logic.{◌⊎◌, inl, inr}
use Prim.Native.Nat.{ℕ, zero, suc, ◌+◌, ◌*◌, ◌≤◌, ◌<◌, zero-le, suc-le-suc}
use native.Mathlib.Nat.{le_of_suc-le-suc, not-suc-le-zero, add_assoc, add-zero}
use native.Mathlib.Numerals.{add-one}
use native.Mathlib.Omega.{arith}
use lib.ListN.{length, get_or, take, length-append}
use lib.Seq.{take-suc}
use Rattle.ground.specs.Lists.{cons_if, filter, all, any, each, sum}
use Rattle.ground.proofs.TestLaws.{and_left, and_right, and_both, or_cases, or_left, or_right, same_test}

module _ {A : Type 0} where
  pub get_d_mem : (l : List A) (i : ℕ) (d : A) → i < length l → Memᴰ (get_or l i d) l
  get_d_mem [] i d h = absurd (not-suc-le-zero h)
  get_d_mem (x ∷ l) zero d h = Memᴰ.head refl
  get_d_mem (x ∷ l) (suc i) d h = Memᴰ.tail (get_d_mem l i d (le_of_suc-le-suc h))

  pub mem_get_d : (d : A) {x : A} {l : List A} → Memᴰ x l → (i : ℕ) × (i < length l) × (get_or l i d ≡ x)
  mem_get_d d (Memᴰ.head e) = (0, suc-le-suc zero-le, sym e)
  mem_get_d d (Memᴰ.tail m) = let (i, h, e) = mem_get_d d m in (suc i, suc-le-suc h, e)

  -- ---- all and any

  pub all_at : (p : A → Bool) {x : A} (l : List A) → all p l ≡ true → Memᴰ x l → p x ≡ true
  all_at p [] t m = elim m [ ]
  all_at p {x} (y ∷ l) t m = go (Memᴰ.cases_cons m) (all_at p l (and_right (p y) _ t))
    where
      go : (x ≡ y) ⊎ Memᴰ x l → (Memᴰ x l → p x ≡ true) → p x ≡ true
      go (inl e) h = rw e (and_left _ _ t)
      go (inr k) h = h k

  pub all_of : (p : A → Bool) (l : List A) → ((x : A) → Memᴰ x l → p x ≡ true) → all p l ≡ true
  all_of p [] h = refl
  all_of p (x ∷ l) h = and_both (h x (Memᴰ.head refl)) (all_of p l (λ y m. h y (Memᴰ.tail m)))

  pub all_index : (p : A → Bool) (d : A) (l : List A) → ((i : ℕ) → i < length l → p (get_or l i d) ≡ true) → all p l ≡ true
  all_index p d [] h = refl
  all_index p d (x ∷ l) h = and_both (h 0 (suc-le-suc zero-le)) (all_index p d l (λ i k. h (suc i) (suc-le-suc k)))

  pub any_of : (p : A → Bool) {x : A} {l : List A} → Memᴰ x l → p x ≡ true → any p l ≡ true
  any_of p {x} (Memᴰ.head {x = y} {xs = l} e) t = or_left (any p l) (rw e at t)
  any_of p (Memᴰ.tail {x = y} {xs = l} m) t = or_right (p y) (any_of p m t)

  pub any_from : (p : A → Bool) (l : List A) → any p l ≡ true → (x : A) × Memᴰ x l × (p x ≡ true)
  any_from p [] t = absurd (false≢true t)
  any_from p (x ∷ l) t = go (any_from p l) (or_cases (p x) _ t)
    where
      go : (any p l ≡ true → (y : A) × Memᴰ y l × (p y ≡ true)) → (p x ≡ true) ⊎ (any p l ≡ true)
          → (y : A) × Memᴰ y (x ∷ l) × (p y ≡ true)
      go ih (inl e) = (x, Memᴰ.head refl, e)
      go ih (inr e) = let (y, m, h) = ih e in (y, Memᴰ.tail m, h)

  -- some pass where not all fail
  pub any_not_all : (p : A → Bool) (l : List A) → any p l ≡ not (all (λ (x : A). not (p x)) l)
  any_not_all p [] = refl
  any_not_all p (x ∷ l) = go (p x) (any_not_all p l)
    where
      go : (b : Bool) → any p l ≡ not (all (λ (y : A). not (p y)) l) → (b || any p l) ≡ not (not b && all (λ (y : A). not (p y)) l)
      go true e = refl
      go false e = e

  -- tests that agree on the list's elements
  module _ (p q : A → Bool) (l : List A) (h : (x : A) → Memᴰ x l → p x ≡ q x) where
    pub all_alike : all p l ≡ all q l
    all_alike =
        same_test (all p l) (all q l)
        (λ t. all_of q l λ x m. sym (h x m) ∙ all_at p l t m)
        (λ t. all_of p l λ x m. h x m ∙ all_at q l t m)

    pub any_alike : any p l ≡ any q l
    any_alike =
        same_test (any p l) (any q l)
        (λ t. let (x, m, e) = any_from p l t in any_of q m (sym (h x m) ∙ e))
        (λ t. let (x, m, e) = any_from q l t in any_of p m (h x m ∙ e))

  -- ---- the elements that pass

  pub filter_mem : (p : A → Bool) {x : A} {l : List A} → Memᴰ x l → p x ≡ true → Memᴰ x (filter p l)
  filter_mem p {x} (Memᴰ.head {x = y} {xs = l} e) t = rw (rw e at t) (Memᴰ.head e)
  filter_mem p {x} (Memᴰ.tail {x = y} {xs = l} m) t = go (p y) (filter_mem p m t)
    where
      go : (b : Bool) → Memᴰ x (filter p l) → Memᴰ x (cons_if b y (filter p l))
      go true k = Memᴰ.tail k
      go false k = k

  pub filter_from : (p : A → Bool) {x : A} (l : List A) → Memᴰ x (filter p l) → Memᴰ x l × (p x ≡ true)
  filter_from p [] m = elim m [ ]
  filter_from p {x} (y ∷ l) m = go (p y) refl (filter_from p l) m
    where
      here : p y ≡ true → (Memᴰ x (filter p l) → Memᴰ x l × (p x ≡ true)) → (x ≡ y) ⊎ Memᴰ x (filter p l)
          → Memᴰ x (y ∷ l) × (p x ≡ true)
      here e ih (inl s) = (Memᴰ.head s, ap p s ∙ e)
      here e ih (inr k) = (Memᴰ.tail (ih k).0, (ih k).1)

      go : (b : Bool) → p y ≡ b → (Memᴰ x (filter p l) → Memᴰ x l × (p x ≡ true)) → Memᴰ x (cons_if b y (filter p l))
          → Memᴰ x (y ∷ l) × (p x ≡ true)
      go true e ih k = here e ih (Memᴰ.cases_cons k)
      go false e ih k = (Memᴰ.tail (ih k).0, (ih k).1)

  pub filter_append : (p : A → Bool) (l k : List A) → filter p (l ++ k) ≡ filter p l ++ filter p k
  filter_append p [] k = refl
  filter_append p (x ∷ l) k = go (p x) (filter_append p l k)
    where
      go : (b : Bool) → filter p (l ++ k) ≡ filter p l ++ filter p k
          → cons_if b x (filter p (l ++ k)) ≡ cons_if b x (filter p l) ++ filter p k
      go true e = rw e
      go false e = e

  pub filter_filter : (p q : A → Bool) (l : List A) → filter p (filter q l) ≡ filter (λ (x : A). q x && p x) l
  filter_filter p q [] = refl
  filter_filter p q (x ∷ l) = go (q x) (filter_filter p q l)
    where
      go : (b : Bool) → filter p (filter q l) ≡ filter (λ (y : A). q y && p y) l
          → filter p (cons_if b x (filter q l)) ≡ cons_if (b && p x) x (filter (λ (y : A). q y && p y) l)
      go true e = rw e
      go false e = e

  -- two tests that agree on the list's elements filter it alike
  pub filter_alike : (p q : A → Bool) (l : List A) → ((x : A) → Memᴰ x l → p x ≡ q x) → filter p l ≡ filter q l
  filter_alike p q [] h = refl
  filter_alike p q (x ∷ l) h = rw (h x (Memᴰ.head refl), filter_alike p q l (λ y m. h y (Memᴰ.tail m)))

  pub filter_none : (l : List A) → filter (λ (x : A). false) l ≡ []
  filter_none [] = refl
  filter_none (x ∷ l) = filter_none l

  pub filter_every : (l : List A) → filter (λ (x : A). true) l ≡ l
  filter_every [] = refl
  filter_every (x ∷ l) = rw (filter_every l)

  -- where one test implies the other on the list, filtering by both is filtering by the first
  pub filter_implied : (p q : A → Bool) (l : List A) → ((x : A) → Memᴰ x l → p x ≡ true → q x ≡ true)
      → filter p (filter q l) ≡ filter p l
  filter_implied p q l h =
      filter_filter p q l ∙ filter_alike _ p l λ x m. same_test (q x && p x) (p x) (and_right (q x) (p x)) (λ t. and_both (h x m t) t)

  cons_if_length : (b : Bool) (x : A) (l : List A) (n : ℕ) → length l ≤ n → length (cons_if b x l) ≤ suc n
  cons_if_length true x l n h = suc-le-suc h
  cons_if_length false x l n h = omega arith

  pub filter_length : (p : A → Bool) (l : List A) → length (filter p l) ≤ length l
  filter_length p [] = zero-le
  filter_length p (x ∷ l) = cons_if_length (p x) x (filter p l) (length l) (filter_length p l)

  -- those that pass one test are no more than those that pass a weaker one
  pub fewer_pass : (p q : A → Bool) (l : List A) → ((x : A) → p x ≡ true → q x ≡ true) → length (filter p l) ≤ length (filter q l)
  fewer_pass p q [] h = zero-le
  fewer_pass p q (x ∷ l) h = go (p x) refl (q x) refl (fewer_pass p q l h)
    where
      go : (b : Bool) → p x ≡ b → (c : Bool) → q x ≡ c → length (filter p l) ≤ length (filter q l)
          → length (cons_if b x (filter p l)) ≤ length (cons_if c x (filter q l))
      go true s true t k = suc-le-suc k
      go true s false t k = absurd (false≢true (sym t ∙ h x s))
      go false s true t k = omega arith
      go false s false t k = k

  pub none_pass : (p : A → Bool) (l : List A) → any p l ≡ false → filter p l ≡ []
  none_pass p [] t = refl
  none_pass p (x ∷ l) t = go (p x) t (none_pass p l)
    where
      go : (b : Bool) → (b || any p l) ≡ false → (any p l ≡ false → filter p l ≡ []) → cons_if b x (filter p l) ≡ []
      go true t k = absurd (false≢true (sym t))
      go false t k = k t

module _ {A B : Type 0} where
  pub filter_map : (p : B → Bool) (f : A → B) (l : List A) → filter p (map f l) ≡ map f (filter (λ (x : A). p (f x)) l)
  filter_map p f [] = refl
  filter_map p f (x ∷ l) = go (p (f x)) (filter_map p f l)
    where
      go : (b : Bool) → filter p (map f l) ≡ map f (filter (λ (y : A). p (f y)) l)
          → cons_if b (f x) (filter p (map f l)) ≡ map f (cons_if b x (filter (λ (y : A). p (f y)) l))
      go true e = rw e
      go false e = e

  pub filter_each : (p : B → Bool) (f : A → List B) (l : List A) → filter p (each f l) ≡ each (λ (x : A). filter p (f x)) l
  filter_each p f [] = refl
  filter_each p f (x ∷ l) = rw (filter_append, filter_each p f l)

  -- ---- map and each

  pub map_from : (f : A → B) {y : B} (l : List A) → Memᴰ y (map f l) → (x : A) × Memᴰ x l × (y ≡ f x)
  map_from f [] m = elim m [ ]
  map_from f {y} (x ∷ l) m = go (Memᴰ.cases_cons m) (map_from f l)
    where
      go : (y ≡ f x) ⊎ Memᴰ y (map f l) → (Memᴰ y (map f l) → (z : A) × Memᴰ z l × (y ≡ f z))
          → (z : A) × Memᴰ z (x ∷ l) × (y ≡ f z)
      go (inl e) h = (x, Memᴰ.head refl, e)
      go (inr k) h = let (z, a, b) = h k in (z, Memᴰ.tail a, b)

  pub map_mem : (f : A → B) {x : A} {l : List A} → Memᴰ x l → Memᴰ (f x) (map f l)
  map_mem f (Memᴰ.head e) = Memᴰ.head (ap f e)
  map_mem f (Memᴰ.tail m) = Memᴰ.tail (map_mem f m)

  -- functions that agree on the list's elements
  pub map_alike : (f g : A → B) (l : List A) → ((x : A) → Memᴰ x l → f x ≡ g x) → map f l ≡ map g l
  map_alike f g [] h = refl
  map_alike f g (x ∷ l) h = rw (h x (Memᴰ.head refl), map_alike f g l (λ y m. h y (Memᴰ.tail m)))

  -- inside the list the default plays no part
  pub get_d_map : (f : A → B) (l : List A) (i : ℕ) (d : A) (e : B) → i < length l → get_or (map f l) i e ≡ f (get_or l i d)
  get_d_map f [] i d e h = absurd (not-suc-le-zero h)
  get_d_map f (x ∷ l) zero d e h = refl
  get_d_map f (x ∷ l) (suc i) d e h = get_d_map f l i d e (le_of_suc-le-suc h)

  pub each_append : (f : A → List B) (l k : List A) → each f (l ++ k) ≡ each f l ++ each f k
  each_append f [] k = refl
  each_append f (x ∷ l) k = rw (each_append f l k) (sym (append_assoc (f x) (each f l) (each f k)))

  pub each_alike : (f g : A → List B) (l : List A) → ((x : A) → Memᴰ x l → f x ≡ g x) → each f l ≡ each g l
  each_alike f g [] h = refl
  each_alike f g (x ∷ l) h = rw (h x (Memᴰ.head refl), each_alike f g l (λ y m. h y (Memᴰ.tail m)))

  pub each_map : {C : Type 0} (f : A → C) (g : C → List B) (l : List A) → each g (map f l) ≡ each (λ (x : A). g (f x)) l
  each_map f g [] = refl
  each_map f g (x ∷ l) = rw (each_map f g l)

  -- an element of each comes from some x of the list
  pub each_from : (f : A → List B) {y : B} (l : List A) → Memᴰ y (each f l) → (x : A) × Memᴰ x l × Memᴰ y (f x)
  each_from f [] m = elim m [ ]
  each_from f {y} (x ∷ l) m = go (Memᴰ.append_cases (f x) m) (each_from f l)
    where
      go : Memᴰ y (f x) ⊎ Memᴰ y (each f l) → (Memᴰ y (each f l) → (z : A) × Memᴰ z l × Memᴰ y (f z))
          → (z : A) × Memᴰ z (x ∷ l) × Memᴰ y (f z)
      go (inl k) h = (x, Memᴰ.head refl, k)
      go (inr k) h = let (z, a, b) = h k in (z, Memᴰ.tail a, b)

  pub each_mem : (f : A → List B) {x : A} {y : B} {l : List A} → Memᴰ x l → Memᴰ y (f x) → Memᴰ y (each f l)
  each_mem f {x} {y} (Memᴰ.head {x = z} {xs = l} e) k = Memᴰ.append_left (each f l) (rw e at k)
  each_mem f (Memᴰ.tail {x = z} {xs = l} m) k = Memᴰ.append_right (f z) (each_mem f m k)

  -- lists of at most k elements, joined
  pub each_length : (f : A → List B) (k : ℕ) (l : List A) → ((x : A) → Memᴰ x l → length (f x) ≤ k) → length (each f l) ≤ k * length l
  each_length f k [] h = zero-le
  each_length f k (x ∷ l) h =
      rw length-append (omega (arith, h x (Memᴰ.head refl), each_length f k l (λ y m. h y (Memᴰ.tail m))))

pub sum_append : (l k : List ℕ) → sum (l ++ k) ≡ sum l + sum k
sum_append [] k = omega arith
sum_append (x ∷ l) k = rw (sum_append l k) (sym (add_assoc x (sum l) (sum k)))

-- ---- one element more, as a loop comes to it

module _ {A : Type 0} (l : List A) (i : ℕ) (d : A) (h : i < length l) where
  more : take (i + 1) l ≡ take i l ++ (get_or l i d ∷ [])
  more = rw (add-one i) (take-suc l i d h)

  pub filter_more : (p : A → Bool) → filter p (take (i + 1) l) ≡ filter p (take i l) ++ filter p (get_or l i d ∷ [])
  filter_more p = rw more (filter_append p (take i l) (get_or l i d ∷ []))

  pub map_more : {B : Type 0} (f : A → B) → map f (take (i + 1) l) ≡ map f (take i l) ++ (f (get_or l i d) ∷ [])
  map_more f = rw more (map-append f (take i l) (get_or l i d ∷ []))

  pub each_more : {B : Type 0} (f : A → List B) → each f (take (i + 1) l) ≡ each f (take i l) ++ f (get_or l i d)
  each_more f = rw (more, each_append, append-nil)

  pub sum_more : (f : A → ℕ) → sum (map f (take (i + 1) l)) ≡ sum (map f (take i l)) + f (get_or l i d)
  sum_more f =
      ap sum (map_more f) ∙ sum_append (map f (take i l)) (f (get_or l i d) ∷ [])
      ∙ ap (λ (k : ℕ). sum (map f (take i l)) + k) (add-zero (f (get_or l i d)))
