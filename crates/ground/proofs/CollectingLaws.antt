-- A list in an array of a fixed size, and a loop that collects those elements of a list that pass a test into one, with
-- a count.
use mathlib.Core.Path.{◌≡◌, refl, sym, ap, ◌∙◌}
use mathlib.Core.Bool.{Bool, true, false}
use mathlib.Core.List.{List, [], ◌∷◌, ◌++◌, append-nil}
use Prim.Native.Nat.{ℕ, ◌+◌, ◌-◌, ◌≤◌, ◌<◌}
use native.Mathlib.Nat.{sub-zero}
use native.Mathlib.Omega.{arith}
use lib.ListN.{length, get_or, take, set, replicate, length-append, length-replicate, get_or-append}
use lib.Seq.{take-append_seam, set-append_seam, append_snoc, length-take-le, take_all}
use Rattle.ground.specs.Lists.{filter, padded, below}
use Rattle.ground.proofs.CountLaws.{left_suc, left_none}
use Rattle.ground.proofs.ListLaws.{filter_more, filter_length}
use Rattle.ground.proofs.NumbersLaws.{below_length, below_get_d}

module _ {A : Type 0} (size : ℕ) (z : A) where
  pub padded_nil : padded size z [] ≡ replicate size z
  unfolding padded
  padded_nil = rw (sub-zero size)

  pub padded_length : (l : List A) → length l ≤ size → length (padded size z l) ≡ size
  unfolding padded
  padded_length l h = length-append l _ ∙ rw (length-replicate (size - length l) z) (omega arith)

  pub padded_take : (l : List A) → take (length l) (padded size z l) ≡ l
  unfolding padded
  padded_take l = take-append_seam l (replicate (size - length l) z)

  pub padded_full : (l : List A) → size ≤ length l → padded size z l ≡ l
  unfolding padded
  padded_full l h = rw (left_none size (length l) h) (append-nil l)

  pub padded_inside : (l : List A) (i : ℕ) (d : A) → i < length l → get_or (padded size z l) i d ≡ get_or l i d
  unfolding padded
  padded_inside l i d h = get_or-append l (replicate (size - length l) z) d i h

  pub padded_push : (l : List A) (v : A) → length l < size → set (padded size z l) (length l) v ≡ padded size z (l ++ (v ∷ []))
  unfolding padded
  padded_push l v h =
      let n : length (l ++ (v ∷ [])) ≡ length l + 1 = length-append l (v ∷ []) in
      rw (left_suc size (length l) h, n)
      (set-append_seam l z (replicate (size - (length l + 1)) z) v ∙ sym (append_snoc l v (replicate (size - (length l + 1)) z)))

-- what is collected stands in front in the array
pub record Collecting {A : Type 0} (size : ℕ) (z : A) (done : List A) (count : ℕ) (out : List A) : Type 0 where
  pub counted : count ≡ length done
  pub fits : length done ≤ size
  pub array : out ≡ padded size z done

module _ {A : Type 0} (size : ℕ) (z : A) where
  pub collecting_start : Collecting size z [] 0 (replicate size z)
  collecting_start = record { counted = refl; fits = omega arith; array = sym (padded_nil size z) }

  module _ (done : List A) (count : ℕ) (out : List A) (c : Collecting size z done count out) where
    pub collecting_push : (v : A) → count < size → Collecting size z (done ++ (v ∷ [])) (count + 1) (set out count v)
    collecting_push v h =
        let n : length (done ++ (v ∷ [])) ≡ length done + 1 = length-append done (v ∷ []) in
        record {
          counted = omega (arith, n, c.counted);
          fits = omega (arith, n, h, c.counted);
          array = rw (c.array, c.counted) (padded_push size z done v (omega (arith, h, c.counted)));
        }

-- of n elements of l i are looked at, and those of them that pass are collected
pub record Picking {A : Type 0} (size : ℕ) (z : A) (p : A → Bool) (l : List A) (n i count : ℕ) (out : List A) : Type 0 where
  pub within : i ≤ n
  pub room : n ≤ size
  pub long : n ≤ length l
  pub picked : Collecting size z (filter p (take i l)) count out

module _ {A : Type 0} (size : ℕ) (z : A) (p : A → Bool) (l : List A) (n : ℕ) where
  pub picking_start : n ≤ size → n ≤ length l → Picking size z p l n 0 0 (replicate size z)
  picking_start h k = record { within = omega arith; room = h; long = k; picked = collecting_start size z }

  module _ (i count : ℕ) (out : List A) (g : Picking size z p l n i count out) where
    -- no more are picked than are looked at
    pub picking_count : count ≤ i
    picking_count =
        omega (arith, g.picked.counted, filter_length p (take i l), length-take-le i l (omega (arith, g.within, g.long)))

    pub picking_yes : (d : A) → i < n → p (get_or l i d) ≡ true → Picking size z p l n (i + 1) (count + 1) (set out count (get_or l i d))
    picking_yes d h t =
        let s : filter p (take (i + 1) l) ≡ filter p (take i l) ++ (get_or l i d ∷ []) =
        filter_more l i d (omega (arith, g.long)) p ∙ rw t in
        record {
          within = omega arith;
          room = g.room;
          long = g.long;
          picked =
              rw s
              (collecting_push size z (filter p (take i l)) count out g.picked (get_or l i d) (omega (arith, picking_count, g.room)));
        }

    pub picking_no : (d : A) → i < n → p (get_or l i d) ≡ false → Picking size z p l n (i + 1) count out
    picking_no d h t =
        let s : filter p (take (i + 1) l) ≡ filter p (take i l) =
        filter_more l i d (omega (arith, g.long)) p ∙ rw t (append-nil (filter p (take i l))) in
        record { within = omega arith; room = g.room; long = g.long; picked = rw s g.picked }

    pub picking_done : n ≤ i → Collecting size z (filter p (take n l)) count out
    picking_done h = let e : i ≡ n = omega (arith, g.within) in rw e at g.picked

-- the same with the numbers below n
module _ (size z : ℕ) (p : ℕ → Bool) (n : ℕ) where
  pub picking_below : n ≤ size → Picking size z p (below n) n 0 0 (replicate size z)
  picking_below h = picking_start size z p (below n) n h (omega (arith, below_length n))

  module _ (i count : ℕ) (out : List ℕ) (g : Picking size z p (below n) n i count out) where
    pub number_yes : i < n → p i ≡ true → Picking size z p (below n) n (i + 1) (count + 1) (set out count i)
    number_yes h t =
        let e : get_or (below n) i z ≡ i = below_get_d n i z h in
        rw e at (picking_yes size z p (below n) n i count out g z h (ap p e ∙ t))

    pub number_no : i < n → p i ≡ false → Picking size z p (below n) n (i + 1) count out
    number_no h t = picking_no size z p (below n) n i count out g z h (ap p (below_get_d n i z h) ∙ t)

    pub number_done : n ≤ i → Collecting size z (filter p (below n)) count out
    number_done h =
        rw (take_all n (below n) (omega (arith, below_length n))) at (picking_done size z p (below n) n i count out g h)
