-- The library's words that the chains of iterators are answered with, and the ones of specs/: filter, all, any and each are the library's own.
use mathlib.Core.Path.{◌≡◌, refl, ap, sym, ◌∙◌}
use mathlib.Core.Bool.{Bool, true, false, cond, not}
use mathlib.Core.List.{List, [], ◌∷◌, map}
use Prim.Native.Nat.{ℕ, zero, suc, ◌+◌, ◌≤◌}
use native.Mathlib.Nat.{le_of_suc-le-suc, not-suc-le-zero}
use native.Mathlib.Omega.{arith}
use lib.ListN.{length, get_or, take}
use borrow.Author.Tests.{lt-ltb, le-ltb}
use Rattle.std.specs.Prelude.{unwrap_or}
use Rattle.std.specs.List.{range_with_len, count_by, sum_by, position, position_or_len}
use Rattle.std.specs.List.{sum as whole}
use Rattle.std.proofs.lemmas.List.Sums.{sum_by-cons, sum-map, length-filter, prefix_len-le-length}
use Rattle.ground.specs.Tests.{pick}
use Rattle.ground.specs.Lists.{filter, numbers_from, below, sum}
use Rattle.ground.specs.Searching.{first_from}
use Rattle.ground.proofs.CountLaws.{split}

-- a range's numbers
pub numbers_is : (i n : ℕ) → range_with_len i n ≡ numbers_from i n
unfolding numbers_from
numbers_is i zero = refl
numbers_is i (suc n) = rw (numbers_is (i + 1) n)

pub below_is : (n : ℕ) → range_with_len 0 n ≡ below n
below_is n = numbers_is 0 n

-- sums and counts
pub sum_is : (l : List ℕ) → whole l ≡ sum l
sum_is [] = refl
sum_is (x ∷ l) = sum_by-cons (λ (y : ℕ). y) x l ∙ ap (λ (k : ℕ). x + k) (sum_is l)

module _ {A : Type 0} where
  pub sum_by_is : (f : A → ℕ) (l : List A) → sum_by f l ≡ sum (map f l)
  sum_by_is f l = sym (sum-map f l) ∙ sum_is (map f l)

  pub count_is : (p : A → Bool) (l : List A) → count_by p l ≡ length (filter p l)
  count_is p l = sym (length-filter p l)

-- ---- the first place that passes, or the length

first_shift : (f : ℕ → Bool) (i n : ℕ) → first_from f (suc i) n ≡ suc (first_from (λ j. f (suc j)) i n)
unfolding first_from
first_shift f i zero = refl
first_shift f i (suc n) = go (f (suc i)) (ap (λ k. first_from f k n) (omega arith) ∙ first_shift f (i + 1) n)
  where
    go : (b : Bool) → first_from f (suc i + 1) n ≡ suc (first_from (λ j. f (suc j)) (i + 1) n)
        → pick b (suc i) (first_from f (suc i + 1) n) ≡ suc (pick b i (first_from (λ j. f (suc j)) (i + 1) n))
    go true e = refl
    go false e = e

module _ {A : Type 0} (p : A → Bool) where
  pub place_is : (d : A) (l : List A) (n : ℕ) → n ≤ length l → position_or_len p (take n l) ≡ first_from (λ i. p (get_or l i d)) 0 n
  unfolding first_from
  place_is d l zero h = refl
  place_is d [] (suc n) h = absurd (not-suc-le-zero h)
  place_is d (x ∷ l) (suc n) h = go (p x) (ap suc (place_is d l n (le_of_suc-le-suc h)) ∙ sym (first_shift (λ i. p (get_or (x ∷ l) i d)) 0 n))
    where
      go : (b : Bool) → suc (position_or_len p (take n l)) ≡ first_from (λ i. p (get_or (x ∷ l) i d)) 1 n
          → cond (not b) (1 + position_or_len p (take n l)) 0 ≡ pick b 0 (first_from (λ i. p (get_or (x ∷ l) i d)) 1 n)
      go true e = refl
      go false e = omega (arith, e)

  pub place_or : (l : List A) → unwrap_or (position p l) (length l) ≡ position_or_len p l
  place_or l =
      let few : position_or_len p l ≤ length l = prefix_len-le-length (λ x. not (p x)) l in
      split (position_or_len p l + 1) (length l)
      (λ h. rw (lt-ltb (position_or_len p l) (length l) (omega arith)))
      (λ h. rw (le-ltb (position_or_len p l) (length l) (omega arith)) (omega arith))
