-- A loop that collects the elements of a list that pass a test into an array, which need not have room for the whole list
-- but has for those.
use mathlib.Core.Path.{◌≡◌, sym, ap, ◌∙◌}
use mathlib.Core.Bool.{Bool, true, false}
use mathlib.Core.List.{List, [], ◌∷◌, ◌++◌, append-nil}
use Prim.Native.Nat.{ℕ, ◌+◌, ◌≤◌, ◌<◌}
use native.Mathlib.Omega.{arith}
use lib.ListN.{length, get_or, take, drop, set, replicate, length-append, take-append-drop}
use lib.Seq.{take_all}
use Rattle.ground.specs.Lists.{filter}
use Rattle.ground.proofs.ListLaws.{filter_append, filter_more}
use Rattle.ground.proofs.CollectingLaws.{Collecting, collecting_start, collecting_push}

pub record Sifting {A : Type 0} (size : ℕ) (z : A) (p : A → Bool) (l : List A) (i count : ℕ) (out : List A) : Type 0 where
  pub within : i ≤ length l
  pub room : length (filter p l) ≤ size
  pub picked : Collecting size z (filter p (take i l)) count out

module _ {A : Type 0} (size : ℕ) (z : A) (p : A → Bool) (l : List A) where
  pub sifting_start : length (filter p l) ≤ size → Sifting size z p l 0 0 (replicate size z)
  sifting_start h = record { within = omega arith; room = h; picked = collecting_start size z }

  -- of the first elements no more pass than of all
  first_few : (i : ℕ) → length (filter p (take i l)) ≤ length (filter p l)
  first_few i =
      let e : filter p l ≡ filter p (take i l) ++ filter p (drop i l) =
      ap (filter p) (sym (take-append-drop i l)) ∙ filter_append p (take i l) (drop i l) in
      omega (arith, ap length e, length-append (filter p (take i l)) (filter p (drop i l)))

  module _ (i count : ℕ) (out : List A) (s : Sifting size z p l i count out) where
    module _ (d : A) (h : i < length l) (t : p (get_or l i d) ≡ true) where
      one_more : filter p (take (i + 1) l) ≡ filter p (take i l) ++ (get_or l i d ∷ [])
      one_more = filter_more l i d h p ∙ rw t

      pub sifting_room : count < size
      sifting_room =
          omega (
            arith,
            s.picked.counted,
            s.room,
            first_few (i + 1),
            ap length one_more,
            length-append (filter p (take i l)) (get_or l i d ∷ []),
          )

      pub sifting_yes : Sifting size z p l (i + 1) (count + 1) (set out count (get_or l i d))
      sifting_yes =
          record {
            within = omega arith;
            room = s.room;
            picked = rw one_more (collecting_push size z (filter p (take i l)) count out s.picked (get_or l i d) sifting_room);
          }

    pub sifting_no : (d : A) → i < length l → p (get_or l i d) ≡ false → Sifting size z p l (i + 1) count out
    sifting_no d h t =
        let e : filter p (take (i + 1) l) ≡ filter p (take i l) = filter_more l i d h p ∙ rw t (append-nil (filter p (take i l))) in
        record { within = omega arith; room = s.room; picked = rw e s.picked }

    pub sifting_done : length l ≤ i → Collecting size z (filter p l) count out
    sifting_done h = rw (take_all i l h) at s.picked
