-- A loop that changes the elements of an array in place, one after the other.
use mathlib.Core.Path.{◌≡◌, refl, sym, ap, ◌∙◌}
use mathlib.Core.List.{List, ◌∷◌, ◌++◌, map, append-nil}
use Prim.Native.Nat.{ℕ, suc, ◌+◌, ◌≤◌, ◌<◌}
use native.Mathlib.Numerals.{add-one}
use native.Mathlib.Omega.{arith}
use lib.ListN.{length, get_or, take, drop, set, length-map, drop_of_length-le}
use lib.Seq.{drop-cons, set_at, get_or_at, append_snoc, length-take-le, take_all, set-get_or}
use Rattle.ground.proofs.ListLaws.{map_more}

-- of n elements i are changed
pub record Mapping {A : Type 0} (f : A → A) (l : List A) (n i : ℕ) (out : List A) : Type 0 where
  pub within : i ≤ n
  pub room : n ≤ length l
  pub same : out ≡ map f (take i l) ++ drop i l

module _ {A : Type 0} (f : A → A) (l : List A) (n : ℕ) where
  pub mapping_start : n ≤ length l → Mapping f l n 0 l
  mapping_start h = record { within = omega arith; room = h; same = refl }

  module _ (i : ℕ) (out : List A) (m : Mapping f l n i out) where
    front : length (map f (take i l)) ≡ i
    front = length-map (take i l) f ∙ length-take-le i l (omega (arith, m.within, m.room))

    module _ (d : A) (h : i < n) where
      whole : out ≡ map f (take i l) ++ get_or l i d ∷ drop (suc i) l
      whole = m.same ∙ ap (λ (r : List A). map f (take i l) ++ r) (drop-cons l i d (omega (arith, m.room)))

      -- the element that comes next is as it was
      pub mapping_at : get_or out i d ≡ get_or l i d
      mapping_at = rw whole (get_or_at (map f (take i l)) (get_or l i d) (drop (suc i) l) d i front)

      -- v, as something else gave it, goes in at i
      pub mapping_set : (v : A) → v ≡ f (get_or out i d) → Mapping f l n (i + 1) (set out i v)
      mapping_set v e =
          let w : v ≡ f (get_or l i d) = e ∙ ap f mapping_at in
          record {
            within = omega arith;
            room = m.room;
            same =
                ap (λ (r : List A). set r i v) whole
                ∙ set_at (map f (take i l)) (get_or l i d) (drop (suc i) l) v i front
                ∙ rw (map_more l i d (omega (arith, m.room)) f, add-one i, w)
                (sym (append_snoc (map f (take i l)) (f (get_or l i d)) (drop (suc i) l)));
          }

      -- an element that f leaves as it is need not be stored
      pub mapping_stays : get_or out i d ≡ f (get_or out i d) → Mapping f l n (i + 1) out
      mapping_stays e = rw (set-get_or out i d) at (mapping_set (get_or out i d) e)

    pub mapping_all : length l ≤ i → out ≡ map f l
    mapping_all h = m.same ∙ rw (take_all i l h, drop_of_length-le l h, append-nil)
