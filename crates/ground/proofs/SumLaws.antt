-- Sums over the numbers below another: one summand more, and that a summand with those before it is within the sum.
use mathlib.Core.Path.{◌≡◌, refl, ap, ◌∙◌}
use mathlib.Core.List.{[], ◌∷◌, map}
use Prim.Native.Nat.{ℕ, zero, suc, ◌+◌, ◌≤◌, ◌<◌}
use native.Mathlib.Nat.{not-suc-le-zero, add-zero}
use native.Mathlib.Numerals.{add-one}
use native.Mathlib.Omega.{arith}
use Rattle.ground.specs.Lists.{below, sum, numbers_from}
use Rattle.ground.proofs.CountLaws.{split}
use Rattle.ground.proofs.ListLaws.{sum_append}
use Rattle.ground.proofs.NumbersLaws.{map_below}

module _ (f : ℕ → ℕ) where
  pub sum_none : sum (map f (below 0)) ≡ 0
  unfolding numbers_from
  sum_none = refl

  pub sum_below : (n : ℕ) → sum (map f (below (n + 1))) ≡ sum (map f (below n)) + f n
  sum_below n =
      ap sum (map_below f n) ∙ sum_append (map f (below n)) (f n ∷ []) ∙ ap (λ (k : ℕ). sum (map f (below n)) + k) (add-zero (f n))

  sum_suc : (n : ℕ) → sum (map f (below (suc n))) ≡ sum (map f (below n)) + f n
  sum_suc n = rw (add-one n) at (sum_below n)

  -- a summand, with those before it, is within the sum
  pub sum_end : (r n : ℕ) → r < n → sum (map f (below r)) + f r ≤ sum (map f (below n))
  sum_end r zero h = absurd (not-suc-le-zero h)
  sum_end r (suc n) h =
      rw (sum_suc n)
      (split n r
      (λ k. let e : r ≡ n = omega arith in rw e (omega arith))
      (λ k. let ih : sum (map f (below r)) + f r ≤ sum (map f (below n)) = sum_end r n k in omega arith))
