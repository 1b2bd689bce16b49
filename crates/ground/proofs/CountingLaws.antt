-- A loop that counts the numbers at which a test holds, and the number that stands at some place among them.
use mathlib.Core.Path.{◌≡◌, refl, ap, sym, ◌∙◌}
use mathlib.Core.Bool.{Bool, true, false}
use mathlib.Core.List.{List, [], ◌∷◌, ◌++◌, append-nil}
use Prim.Native.Nat.{ℕ, ◌+◌, ◌-◌, ◌≤◌, ◌<◌}
use native.Mathlib.Omega.{arith}
use lib.ListN.{length, get_or, length-append}
use lib.Seq.{get_or_at}
use Rattle.ground.specs.Lists.{filter, below, numbers_from}
use Rattle.ground.proofs.ListLaws.{filter_append, filter_length}
use Rattle.ground.proofs.NumbersLaws.{below_length, filter_below, numbers_append, below_split}

-- up to a later number it holds at no fewer
pub counted_more : (f : ℕ → Bool) (n k : ℕ) → n ≤ k → length (filter f (below n)) ≤ length (filter f (below k))
counted_more f n k h =
    let s : k ≡ n + (k - n) = omega arith in
    let behind = filter f (numbers_from (0 + n) (k - n)) in
    let parts : filter f (below k) ≡ filter f (below n) ++ behind =
    ap (λ j. filter f (below j)) s ∙ ap (filter f) (numbers_append 0 n (k - n)) ∙ filter_append f (below n) (numbers_from (0 + n) (k - n)) in
    omega (arith, ap (λ (l : List ℕ). length l) parts, length-append (filter f (below n)) behind)

-- of n numbers i are looked at, and the test held at count of them
pub record Counting (f : ℕ → Bool) (n i count : ℕ) : Type 0 where
  pub within : i ≤ n
  pub counted : count ≡ length (filter f (below i))

module _ (f : ℕ → Bool) (n : ℕ) where
  pub counting_start : Counting f n 0 0
  unfolding numbers_from
  counting_start = record { within = omega arith; counted = refl }

  module _ (i count : ℕ) (c : Counting f n i count) where
    pub counting_most : count ≤ i
    counting_most = omega (arith, c.counted, filter_length f (below i), below_length i)

    module _ (h : i < n) where
      pub counting_yes : f i ≡ true → Counting f n (i + 1) (count + 1)
      counting_yes t =
          let s : filter f (below (i + 1)) ≡ filter f (below i) ++ (i ∷ []) = filter_below f i ∙ rw t in
          record { within = omega arith; counted = rw s (omega (arith, c.counted, length-append (filter f (below i)) (i ∷ []))) }

      pub counting_no : f i ≡ false → Counting f n (i + 1) count
      counting_no t =
          let s : filter f (below (i + 1)) ≡ filter f (below i) = filter_below f i ∙ rw t (append-nil (filter f (below i))) in
          record { within = omega arith; counted = rw s c.counted }

      -- the test holds at i: so i stands behind those that are counted
      stands : f i ≡ true → filter f (below n) ≡ filter f (below i) ++ (i ∷ filter f (numbers_from (i + 1) (n - (i + 1))))
      stands t =
          ap (filter f) (below_split n i h)
          ∙ filter_append f (below i) (i ∷ numbers_from (i + 1) (n - (i + 1)))
          ∙ rw t

      pub counting_found : f i ≡ true → get_or (filter f (below n)) count 0 ≡ i
      counting_found t =
          rw (stands t)
          (get_or_at (filter f (below i)) i (filter f (numbers_from (i + 1) (n - (i + 1)))) 0 count (sym c.counted))

      pub counting_less : f i ≡ true → count < length (filter f (below n))
      counting_less t =
          rw (stands t)
          (omega (
            arith,
            c.counted,
            length-append (filter f (below i)) (i ∷ filter f (numbers_from (i + 1) (n - (i + 1)))),
          ))

    pub counting_done : n ≤ i → count ≡ length (filter f (below n))
    counting_done h = let e : i ≡ n = omega (arith, c.within) in rw e at c.counted
