-- An array of which a count says how many elements are in use, which may be more than it has: looking through them.
use mathlib.Core.Path.{◌≡◌, ap, sym, ◌∙◌}
use mathlib.Core.Bool.{Bool, true, false}
use mathlib.Core.List.{List}
use Prim.Native.Nat.{ℕ, ◌+◌, ◌≤◌, ◌<◌, min}
use native.Mathlib.Nat.{min-eq_left, min-eq_right}
use native.Mathlib.Omega.{arith}
use lib.ListN.{length, get_or, take, length-take, get_or-eq_default}
use lib.Seq.{get_or-take, take_all}
use Rattle.ground.specs.Lists.{any}
use Rattle.ground.proofs.CountLaws.{split}
use Rattle.ground.proofs.SearchingLaws.{some_from, Looking, some_more, some_found, some_none, any_some}

-- an element behind the list reads as the default
pub element_past : {A : Type 0} (l : List A) (i : ℕ) (d x : A) → length l ≤ i → x ≡ d → x ≡ get_or l i d
element_past l i d x h e = e ∙ sym (get_or-eq_default l d h)

-- and so one behind those in use
pub used_outside : {A : Type 0} (l : List A) (n i : ℕ) (d : A) → n ≤ i → get_or (take n l) i d ≡ d
used_outside l n i d h = get_or-eq_default (take n l) d (omega (arith, length-take n l))

pub used_inside : {A : Type 0} (l : List A) (n i : ℕ) (d : A) → i < n → get_or (take n l) i d ≡ get_or l i d
used_inside l n i d h = get_or-take n l i d h

-- the first n of a list are the first as many as there are
pub used_least : {A : Type 0} (l : List A) (size n : ℕ) → length l ≡ size → take (min size n) l ≡ take n l
used_least l size n e =
    split n size
    (λ h. rw (min-eq_right h))
    (λ h. let k : size ≤ n = omega arith in rw (min-eq_left k) (take_all size l (omega arith) ∙ sym (take_all n l (omega arith))))

-- the test at number i of a list
abbrev pub tested : {A : Type 0} → (A → Bool) → A → List A → ℕ → Bool
tested p d l = λ (i : ℕ). p (get_or l i d)

module _ {A : Type 0} (p : A → Bool) (d : A) (l : List A) (size n : ℕ) (long : length l ≡ size) (end i : ℕ)
    (g : Looking some_from (tested p d l) end i) where
  all_in_use : end ≡ min size n → some_from (tested p d l) 0 end ≡ any p (take n l)
  all_in_use u = sym (any_some p d l end (omega arith)) ∙ rw u (ap (any p) (used_least l size n long))

  module _ (h : i < end) (b : Bool) (e : b ≡ p (get_or l i d)) where
    pub used_passed : b ≡ false → Looking some_from (tested p d l) end (i + 1)
    used_passed t = some_more (tested p d l) end i g h (sym e ∙ t)

    pub used_found : end ≡ min size n → b ≡ true → true ≡ any p (take n l)
    used_found u t = some_found (tested p d l) end i g h (sym e ∙ t) ∙ all_in_use u

  pub used_none : end ≡ min size n → end ≤ i → false ≡ any p (take n l)
  used_none u h = some_none (tested p d l) end i g h ∙ all_in_use u
