-- Looking through a run of numbers: what holds at the head of a loop that looks, what is known of the place it finds,
-- and that looking through a list by number is looking through the list.
use mathlib.Core.Path.{◌≡◌, refl, ap, sym, ◌∙◌}
use mathlib.Core.Bool.{Bool, true, false, ◌||◌}
use mathlib.Core.List.{List, [], ◌∷◌}
use Prim.Native.Nat.{ℕ, zero, suc, ◌+◌, ◌-◌, ◌≤◌, ◌<◌}
use native.Mathlib.Nat.{add-zero, sub-zero, sub_self, le_of_suc-le-suc, not-suc-le-zero}
use native.Mathlib.Omega.{arith}
use borrow.Author.Tests.{lt-ltb, le-ltb, ltb-true}
use lib.Dec.{ltb}
use lib.ListN.{length, get_or, take}
use Rattle.ground.specs.Tests.{pick}
use Rattle.ground.specs.Lists.{any, Every, numbers_from}
use Rattle.ground.specs.Searching.{first_from}
use Rattle.ground.proofs.CountLaws.{left_suc, left_none, split}
use Rattle.ground.proofs.EveryLaws.{every_of}
use Rattle.ground.proofs.NumbersLaws.{numbers_from_lem}

-- the test holds at one of n numbers from i on: what a loop that looks for one finds
unfoldable pub some_from : (ℕ → Bool) → ℕ → ℕ → Bool
some_from f i zero = false
some_from f i (suc n) = pick (f i) true (some_from f (i + 1) n)

-- of n numbers i are looked at: what is left to look through gives what the whole gives
pub record Looking {A : Type 0} (from : (ℕ → Bool) → ℕ → ℕ → A) (f : ℕ → Bool) (n i : ℕ) : Type 0 where
  pub within : i ≤ n
  pub same : from f 0 n ≡ from f i (n - i)

pub looking_start : {A : Type 0} (from : (ℕ → Bool) → ℕ → ℕ → A) (f : ℕ → Bool) (n : ℕ) → Looking from f n 0
looking_start from f n = record { within = omega arith; same = simp sub-zero }

module _ (f : ℕ → Bool) (n i : ℕ) where
  pub some_more : Looking some_from f n i → i < n → f i ≡ false → Looking some_from f n (i + 1)
  unfolding some_from
  some_more l h e = record { within = omega arith; same = l.same ∙ simp (left_suc n i h, e) }

  pub some_found : Looking some_from f n i → i < n → f i ≡ true → true ≡ some_from f 0 n
  unfolding some_from
  some_found l h e = sym (l.same ∙ simp (left_suc n i h, e))

  pub some_none : Looking some_from f n i → n ≤ i → false ≡ some_from f 0 n
  unfolding some_from
  some_none l h = sym (l.same ∙ simp (left_none n i h))

  pub first_more : Looking first_from f n i → i < n → f i ≡ false → Looking first_from f n (i + 1)
  unfolding first_from
  first_more l h e = record { within = omega arith; same = l.same ∙ simp (left_suc n i h, e) }

  pub first_found : Looking first_from f n i → i < n → f i ≡ true → i ≡ first_from f 0 n
  unfolding first_from
  first_found l h e = sym (l.same ∙ simp (left_suc n i h, e))

  pub first_none : Looking first_from f n i → n ≤ i → n ≡ first_from f 0 n
  unfolding first_from
  first_none l h = let e : i ≡ n = omega arith in sym (l.same ∙ simp (e, sub_self))

-- ---- where the first place lies

pick_least : (b : Bool) (i k : ℕ) → i + 1 ≤ k → i ≤ pick b i k
pick_least true i k h = omega arith
pick_least false i k h = omega arith

pub first_least : (f : ℕ → Bool) (i n : ℕ) → i ≤ first_from f i n
unfolding first_from
first_least f i zero = omega arith
first_least f i (suc n) = pick_least (f i) i (first_from f (i + 1) n) (first_least f (i + 1) n)

-- ---- the test there and before

module _ (f : ℕ → Bool) where
  pick_holds : (b : Bool) (i k n : ℕ) → f i ≡ b → (k < i + 1 + n → f k ≡ true) → pick b i k < i + suc n → f (pick b i k) ≡ true
  pick_holds true i k n e h l = e
  pick_holds false i k n e h l = h (omega arith)

  pub first_holds : (i n : ℕ) → first_from f i n < i + n → f (first_from f i n) ≡ true
  unfolding first_from
  first_holds i zero h = absurd (omega arith)
  first_holds i (suc n) h = pick_holds (f i) i (first_from f (i + 1) n) n refl (first_holds (i + 1) n) h

  pick_earlier : (b : Bool) (i k j : ℕ) → f i ≡ b → (i + 1 ≤ j → j < k → f j ≡ false) → i ≤ j → j < pick b i k → f j ≡ false
  pick_earlier true i k j e h l m = absurd (omega arith)
  pick_earlier false i k j e h l m = split (i + 1) j (λ a. h a m) (λ a. let s : j ≡ i = omega arith in ap f s ∙ e)

  pub first_earlier : (i n j : ℕ) → i ≤ j → j < first_from f i n → f j ≡ false
  unfolding first_from
  first_earlier i zero j l m = absurd (omega arith)
  first_earlier i (suc n) j l m = pick_earlier (f i) i (first_from f (i + 1) n) j refl (first_earlier (i + 1) n j) l m

  -- a place where the test holds, and before which it does not, is the first
  pub first_is : (i n k : ℕ) → i ≤ k → k < i + n → f k ≡ true → ((j : ℕ) → i ≤ j → j < k → f j ≡ false) → first_from f i n ≡ k
  unfolding first_from
  first_is i zero k l m e h = absurd (omega arith)
  first_is i (suc n) k l m e h =
      split (i + 1) k
      (λ a. rw (h i (omega arith) (omega arith)) (first_is (i + 1) n k a (omega arith) e (λ j b. h j (omega arith))))
      (λ a. let s : i ≡ k = omega arith in rw (ap f s ∙ e) s)

  -- ---- whether there is one

  pick_ltb : (b c : Bool) (i k n : ℕ) → c ≡ ltb k (i + 1 + n) → pick b true c ≡ ltb (pick b i k) (i + suc n)
  pick_ltb true c i k n e = sym (lt-ltb i (i + suc n) (omega arith))
  pick_ltb false c i k n e = let s : i + 1 + n ≡ i + suc n = omega arith in e ∙ ap (ltb k) s

  -- some place is one where the first is no place past the run
  pub some_first : (i n : ℕ) → some_from f i n ≡ ltb (first_from f i n) (i + n)
  unfolding first_from some_from
  some_first i zero = sym (le-ltb i (i + 0) (omega arith))
  some_first i (suc n) = pick_ltb (f i) (some_from f (i + 1) n) i (first_from f (i + 1) n) n (some_first (i + 1) n)

  pub some_at : (i n : ℕ) → some_from f i n ≡ true → (k : ℕ) × (i ≤ k) × (k < i + n) × (f k ≡ true)
  some_at i n e =
      let l : first_from f i n < i + n = ltb-true _ _ (sym (some_first i n) ∙ e) in
      (first_from f i n, first_least f i n, l, first_holds i n l)

  pub some_of : (i n k : ℕ) → i ≤ k → k < i + n → f k ≡ true → some_from f i n ≡ true
  some_of i n k l m e = go (some_from f i n) refl
    where
      go : (b : Bool) → some_from f i n ≡ b → b ≡ true
      go true s = refl
      go false s =
          split (i + n) (first_from f i n)
          (λ a. sym (first_earlier i n k l (omega arith)) ∙ e)
          (λ a. sym s ∙ some_first i n ∙ lt-ltb _ _ a)

  pub none_at : (i n : ℕ) → some_from f i n ≡ false → (j : ℕ) → i ≤ j → j < i + n → f j ≡ false
  none_at i n e j l m = go (f j) refl
    where
      go : (b : Bool) → f j ≡ b → b ≡ false
      go true s = sym (some_of i n j l m s) ∙ e
      go false s = refl

-- ---- lists

pick_or : (a b : Bool) → pick a true b ≡ (a || b)
pick_or true b = refl
pick_or false b = refl

pub any_numbers : (f : ℕ → Bool) (i n : ℕ) → any f (numbers_from i n) ≡ some_from f i n
unfolding numbers_from some_from
any_numbers f i zero = refl
any_numbers f i (suc n) = rw (any_numbers f (i + 1) n) (sym (pick_or (f i) (some_from f (i + 1) n)))

-- a search that ends past its numbers found none, and one that can find none ends there
pub past_none : (f : ℕ → Bool) (i n : ℕ) → i + n ≤ first_from f i n → Every (λ (r : ℕ). f r ≡ false) (numbers_from i n)
past_none f i n h =
    every_of _ (numbers_from i n) λ r m.
    let (l, k) = numbers_from_lem i n m in
    first_earlier f i n r l (omega arith)

pub none_past : (f : ℕ → Bool) (i n : ℕ) → Every (λ (r : ℕ). f r ≡ false) (numbers_from i n) → first_from f i n ≡ i + n
unfolding first_from numbers_from
none_past f i zero h = sym (add-zero i)
none_past f i (suc n) h = rw h.0 (none_past f (i + 1) n h.1 ∙ omega arith)

pub some_shift : (f : ℕ → Bool) (i n : ℕ) → some_from f (suc i) n ≡ some_from (λ j. f (suc j)) i n
unfolding some_from
some_shift f i zero = refl
some_shift f i (suc n) =
    let s : suc i + 1 ≡ suc (i + 1) = omega arith in
    rw (s, some_shift f (i + 1) n)

module _ {A : Type 0} (p : A → Bool) (d : A) where
  pub any_some : (l : List A) (n : ℕ) → n ≤ length l → any p (take n l) ≡ some_from (λ (i : ℕ). p (get_or l i d)) 0 n
  unfolding some_from
  any_some l zero h = refl
  any_some [] (suc n) h = absurd (not-suc-le-zero h)
  any_some (x ∷ l) (suc n) h =
      rw (any_some l n (le_of_suc-le-suc h), some_shift (λ (i : ℕ). p (get_or (x ∷ l) i d)) 0 n) (sym (pick_or (p x) _))
