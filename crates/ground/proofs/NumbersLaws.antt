-- Laws of runs of numbers as lists.
use mathlib.Core.Path.{◌≡◌, refl, sym, ap, ◌∙◌}
use mathlib.Core.Bool.{Bool}
use mathlib.Core.List.Memᴰ
use mathlib.Core.List.{List, [], ◌∷◌, ◌++◌, map, append-nil, map-append, Memᴰ}
use mathlib.Core.Logic.{◌⊎◌, inl, inr}
use Prim.Native.Nat.{ℕ, zero, suc, ◌+◌, ◌-◌, ◌≤◌, ◌<◌, zero-le}
use native.Mathlib.Nat.{le_of_suc-le-suc, not-suc-le-zero, add-zero, zero-add}
use native.Mathlib.Numerals.{add-one}
use native.Mathlib.Omega.{arith}
use lib.ListN.{length, get_or}
use Rattle.ground.specs.Lists.{numbers_from, below, each, filter}
use Rattle.ground.proofs.CountLaws.{split, left_suc}
use Rattle.ground.proofs.ListLaws.{each_append, filter_append}

pub numbers_length : (i n : ℕ) → length (numbers_from i n) ≡ n
unfolding numbers_from
numbers_length i zero = refl
numbers_length i (suc n) = ap suc (numbers_length (i + 1) n)

pub numbers_get_d : (i n k d : ℕ) → k < n → get_or (numbers_from i n) k d ≡ i + k
unfolding numbers_from
numbers_get_d i zero k d h = absurd (not-suc-le-zero h)
numbers_get_d i (suc n) zero d h = sym (add-zero i)
numbers_get_d i (suc n) (suc k) d h = let s : i + 1 + k ≡ i + suc k = omega arith in numbers_get_d (i + 1) n k d (le_of_suc-le-suc h) ∙ s

pub numbers_append : (i n m : ℕ) → numbers_from i (n + m) ≡ numbers_from i n ++ numbers_from (i + n) m
unfolding numbers_from
numbers_append i zero m = let s : 0 + m ≡ m = omega arith in rw (s, add-zero i)
numbers_append i (suc n) m =
    let s : suc n + m ≡ suc (n + m) = omega arith in
    let t : i + suc n ≡ i + 1 + n = omega arith in
    rw (s, t) (ap (λ (l : List ℕ). i ∷ l) (numbers_append (i + 1) n m))

pub numbers_suc : (i n : ℕ) → numbers_from i (suc n) ≡ numbers_from i n ++ ((i + n) ∷ [])
unfolding numbers_from
numbers_suc i n = ap (numbers_from i) (sym (add-one n)) ∙ numbers_append i n 1

pub numbers_mem : (x i n : ℕ) → i ≤ x → x < i + n → Memᴰ x (numbers_from i n)
unfolding numbers_from
numbers_mem x i zero l h = absurd (omega arith)
numbers_mem x i (suc n) l h =
    split (i + 1) x
    (λ k. Memᴰ.tail (numbers_mem x (i + 1) n k (omega arith)))
    (λ k. Memᴰ.head (omega arith))

pub numbers_from_lem : {x : ℕ} (i n : ℕ) → Memᴰ x (numbers_from i n) → (i ≤ x) × (x < i + n)
unfolding numbers_from
numbers_from_lem i zero m = elim m [ ]
numbers_from_lem {x} i (suc n) m = go (Memᴰ.cases_cons m) (numbers_from_lem (i + 1) n)
  where
    go : (x ≡ i) ⊎ Memᴰ x (numbers_from (i + 1) n) → (Memᴰ x (numbers_from (i + 1) n) → (i + 1 ≤ x) × (x < i + 1 + n))
        → (i ≤ x) × (x < i + suc n)
    go (inl e) ih = (omega arith, omega arith)
    go (inr k) ih = let (a, b) = ih k in (omega arith, omega arith)

-- ---- the numbers below n

pub below_length : (n : ℕ) → length (below n) ≡ n
below_length n = numbers_length 0 n

pub below_get_d : (n k d : ℕ) → k < n → get_or (below n) k d ≡ k
below_get_d n k d h = let s : 0 + k ≡ k = omega arith in numbers_get_d 0 n k d h ∙ s

pub below_suc : (n : ℕ) → below (suc n) ≡ below n ++ (n ∷ [])
below_suc n = let s : 0 + n ≡ n = omega arith in numbers_suc 0 n ∙ rw s

-- cut at one of them
pub below_split : (n r : ℕ) → r < n → below n ≡ below r ++ (r ∷ numbers_from (r + 1) (n - (r + 1)))
unfolding numbers_from
below_split n r h =
    let whole : r + (n - r) ≡ n = omega arith in
    ap below (sym whole) ∙ numbers_append 0 r (n - r) ∙ rw (zero-add r, left_suc n r h)

-- one more, as a loop comes to it
pub below_more : (n : ℕ) → below (n + 1) ≡ below n ++ (n ∷ [])
below_more n = rw (add-one n) (below_suc n)

pub each_below : {B : Type 0} (f : ℕ → List B) (n : ℕ) → each f (below (n + 1)) ≡ each f (below n) ++ f n
each_below f n = rw (below_more n, each_append, append-nil)

pub map_below : {B : Type 0} (f : ℕ → B) (n : ℕ) → map f (below (n + 1)) ≡ map f (below n) ++ (f n ∷ [])
map_below f n = rw (below_more n) (map-append f (below n) (n ∷ []))

pub filter_below : (p : ℕ → Bool) (n : ℕ) → filter p (below (n + 1)) ≡ filter p (below n) ++ filter p (n ∷ [])
filter_below p n = rw (below_more n) (filter_append p (below n) (n ∷ []))

pub below_mem : (x n : ℕ) → x < n → Memᴰ x (below n)
below_mem x n h = numbers_mem x 0 n zero-le (omega arith)

pub below_from : {x : ℕ} (n : ℕ) → Memᴰ x (below n) → x < n
below_from {x} n m = let (a, b) = numbers_from_lem 0 n m in omega arith
