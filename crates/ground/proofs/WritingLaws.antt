-- A loop that writes the elements of an array that are in use, each at most so long: where it stands and what it has
-- written, also where the count is more than the array has.
use mathlib.Core.Path.{◌≡◌, refl, ap, ◌∙◌}
use mathlib.Core.List.{List}
use Prim.Native.Nat.{ℕ, ◌+◌, ◌*◌, ◌≤◌, ◌<◌, min}
use native.Mathlib.Numerals.{add-one}
use native.Mathlib.Nat.{mul-suc}
use native.Mathlib.Omega.{arith}
use lib.ListN.{length, get_or, take}
use lib.Seq.{sets, length-sets}
use Rattle.ground.specs.Lists.{each}
use Rattle.ground.proofs.UsedLaws.{used_least}
use Rattle.ground.proofs.PuttingLaws.{Putting, putting_start, putting_more, putting_done, putting_place}

-- of n elements i are written, each at most `most` long
pub record Writing {A : Type 0} (put : A → List ℕ) (most : ℕ) (xs : List A) (before : List ℕ) (at n i p : ℕ) (out : List ℕ) : Type 0 where
  pub putting : Putting put xs before at n i p out
  pub near : p ≤ at + most * i
  pub long : length out ≡ length before

take_least : {A : Type 0} (xs : List A) (size count n : ℕ) → length xs ≡ size → n ≡ min size count → take n xs ≡ take count xs
take_least xs size count n l e = rw e (used_least xs size count l)

module _ {A : Type 0} (put : A → List ℕ) (most : ℕ) (xs : List A) (before : List ℕ) (at n : ℕ) where
  pub writing_start : n ≤ length xs → Writing put most xs before at n 0 at before
  writing_start h = record { putting = putting_start put xs before at n h; near = omega arith; long = refl }

  module _ (i p : ℕ) (out : List ℕ) (w : Writing put most xs before at n i p out) where
    pub writing_more : (d : A) (q : ℕ) (after : List ℕ) → i < n → q ≡ p + length (put (get_or xs i d))
        → after ≡ sets out p (put (get_or xs i d)) → q ≤ p + most → Writing put most xs before at n (i + 1) q after
    writing_more d q after h e f g =
        let more : most * (i + 1) ≡ most * i + most = ap (λ k. most * k) (add-one i) ∙ mul-suc most i in
        record {
          putting = putting_more put xs before at n i p out w.putting d q after h f e;
          near = omega (arith, w.near, more);
          long = ap length f ∙ length-sets out p (put (get_or xs i d)) ∙ w.long;
        }

    module _ (size count : ℕ) (l : length xs ≡ size) (e : n ≡ min size count) (h : n ≤ i) where
      pub writing_place : p ≡ at + length (each put (take count xs))
      writing_place =
          putting_place put xs before at n i p out w.putting h
          ∙ ap (λ (x : List A). at + length (each put x)) (take_least xs size count n l e)

      pub writing_done : out ≡ sets before at (each put (take count xs))
      writing_done =
          putting_done put xs before at n i p out w.putting h
          ∙ ap (λ (x : List A). sets before at (each put x)) (take_least xs size count n l e)
