-- An array that is made place by place, by from_fn or by map: where each call gives what a function says of the number or of the
-- element, it is that function of the numbers of its places, or of the elements.
use Rattle.std.proofs.Common.{◌≡◌, sym, ap, ◌∙◌, refl, ℕ, zero, suc, ◌+◌, ◌<◌, ◌≤◌, List, ◌∷◌, map, length, drop}
use Rattle.std.specs.Array.{IsFromFnResultFrom, IsFromFnResult, MapsFrom, IsMapOf}
use denote.Param.Members.{Called, Mut}
use native.Mathlib.Omega.{arith}
use native.Mathlib.Numerals.{add-one}
use lib.ListN.{drop_of_length-le}
use lib.Seq.{drop-cons}
use Rattle.ground.specs.Lists.{below, numbers_from}

module _ {F B : Type 0} (g : Mut F (ℕ × Unit {0}) B) (value : ℕ → B) (f : F) (size : ℕ)
    (same : (i : ℕ) (y : B) (q : F) → i < size → Called g f (i, tt) y q → (y ≡ value i) × (q ≡ f)) where
  made_from : (ys : List B) (i n : ℕ) → length ys ≡ size → i + n ≡ size → (p : F) → p ≡ f → IsFromFnResultFrom g p ys i n
      → drop i ys ≡ map value (numbers_from i n)
  unfolding numbers_from
  made_from ys i zero long whole p e h = let m : length ys ≤ i = omega arith in drop_of_length-le ys m
  made_from ys i (suc n) long whole p e (q, y, at, called, rest) =
      let l : i < size = omega arith in
      let (v, u) = same i y q l (rw e at called) in
      drop-cons ys i y (omega arith) ∙ ap (λ (x : B). x ∷ drop (suc i) ys) (at.0 ∙ v)
      ∙ ap (λ (x : List B). value i ∷ x) (ap (λ (k : ℕ). drop k ys) (sym (add-one i)) ∙ made_from ys (i + 1) n long (omega arith) q u rest)

  pub made_is : (ys : List B) → IsFromFnResult g f ys size → ys ≡ map value (below size)
  made_is ys h = made_from ys 0 size h.long (omega arith) f refl h.each

module _ {F A B : Type 0} (g : Mut F (A × Unit {0}) B) (value : A → B) (f : F)
    (same : (x : A) (y : B) (q : F) → Called g f (x, tt) y q → (y ≡ value x) × (q ≡ f)) where
  mapped_from : (xs : List A) (ys : List B) (i n : ℕ) → length ys ≡ length xs → i + n ≡ length xs → (p : F) → p ≡ f
      → MapsFrom g p xs ys i n → drop i ys ≡ map value (drop i xs)
  mapped_from xs ys i zero long whole p e h =
      drop_of_length-le ys (omega arith) ∙ ap (map value) (sym (drop_of_length-le xs (omega arith)))
  mapped_from xs ys i (suc n) long whole p e (q, x, y, from, to, called, rest) =
      let (v, u) = same x y q (rw e at called) in
      drop-cons ys i y (omega arith) ∙ ap (λ (z : B). z ∷ drop (suc i) ys) (to.0 ∙ v)
      ∙ ap (λ (z : List B). value x ∷ z)
      (ap (λ (k : ℕ). drop k ys) (sym (add-one i)) ∙ mapped_from xs ys (i + 1) n long (omega arith) q u rest
      ∙ ap (λ (k : ℕ). map value (drop k xs)) (add-one i))
      ∙ ap (map value) (ap (λ (z : A). z ∷ drop (suc i) xs) (sym from.0) ∙ sym (drop-cons xs i x (omega arith)))

  pub mapped_is : (xs : List A) (ys : List B) (n : ℕ) → length xs ≡ n → IsMapOf g f xs ys n → ys ≡ map value xs
  mapped_is xs ys n long h = mapped_from xs ys 0 n (h.long ∙ sym long) (omega arith) f refl h.each
