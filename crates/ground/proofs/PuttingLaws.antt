-- Loops that write into a lent buffer: the parts of a list's elements one after the other, or the elements themselves.
use mathlib.Core.Path.{◌≡◌, refl, ap, sym, ◌∙◌}
use mathlib.Core.List.{List, [], ◌∷◌, ◌++◌, append_assoc}
use Prim.Native.Nat.{ℕ, suc, ◌+◌, ◌≤◌, ◌<◌}
use native.Mathlib.Nat.{add-zero}
use native.Mathlib.Numerals.{add-one}
use native.Mathlib.Omega.{arith}
use lib.ListN.{length, get_or, take, drop, set, length-append}
use lib.Seq.{sets, sets-eq, length-sets, take-suc, length-take-le, take_at, drop_at, drop-drop, take-append_seam, drop-append_seam}
use Rattle.ground.specs.Lists.{each}
use Rattle.ground.proofs.ListLaws.{each_more}

module _ {A : Type 0} where
  pub sets_append : (l : List A) (i : ℕ) (a b : List A) → sets l i (a ++ b) ≡ sets (sets l i a) (i + length a) b
  sets_append l i [] b = rw (add-zero i)
  sets_append l i (x ∷ a) b =
      let s : i + suc (length a) ≡ suc i + length a = omega arith in
      rw s (sets_append (set l i x) (suc i) a b)

  -- one more element behind those that are written
  pub sets_take : (d : A) (l : List A) (at : ℕ) (xs : List A) (i : ℕ) → i < length xs
      → sets l at (take (i + 1) xs) ≡ set (sets l at (take i xs)) (at + i) (get_or xs i d)
  sets_take d l at xs i h =
      let n : length (take i xs) ≡ i = length-take-le i xs (omega arith) in
      rw (add-one i, take-suc xs i d h, sets_append, n)

  -- what is written stands there; in front of it and behind it nothing changes
  module _ (l : List A) (at : ℕ) (vs : List A) (h : at + length vs ≤ length l) where
    parts : sets l at vs ≡ take at l ++ (vs ++ drop (at + length vs) l)
    parts = sets-eq vs l at h ∙ append_assoc (take at l) vs (drop (at + length vs) l)

    front : length (take at l) ≡ at
    front = length-take-le at l (omega arith)

    behind : drop at (sets l at vs) ≡ vs ++ drop (at + length vs) l
    behind = ap (drop at) parts ∙ drop_at (take at l) (vs ++ drop (at + length vs) l) at front

    pub sets_stand : take (length vs) (drop at (sets l at vs)) ≡ vs
    sets_stand = rw behind (take-append_seam vs (drop (at + length vs) l))

    pub sets_before : take at (sets l at vs) ≡ take at l
    sets_before = rw parts (take_at (take at l) (vs ++ drop (at + length vs) l) at front)

    pub sets_behind : drop (at + length vs) (sets l at vs) ≡ drop (at + length vs) l
    sets_behind = sym (drop-drop (length vs) at (sets l at vs)) ∙ rw behind (drop-append_seam vs (drop (at + length vs) l))

-- of n elements' parts, to be written from at on, i are written; p is the place past them
pub record Putting {A B : Type 0} (put : A → List B) (xs : List A) (before : List B) (at n i p : ℕ) (out : List B) : Type 0 where
  pub within : i ≤ n
  pub room : n ≤ length xs
  pub place : p ≡ at + length (each put (take i xs))
  pub same : out ≡ sets before at (each put (take i xs))

module _ {A B : Type 0} (put : A → List B) (xs : List A) (before : List B) (at n : ℕ) where
  pub putting_start : n ≤ length xs → Putting put xs before at n 0 at before
  putting_start h = record { within = omega arith; room = h; place = sym (add-zero at); same = refl }

  length_more : (d : A) (i : ℕ) → i < length xs
      → length (each put (take (i + 1) xs)) ≡ length (each put (take i xs)) + length (put (get_or xs i d))
  length_more d i h = ap length (each_more xs i d h put) ∙ length-append (each put (take i xs)) (put (get_or xs i d))

  module _ (i p : ℕ) (out : List B) (f : Putting put xs before at n i p out) where
    pub putting_more : (d : A) (q : ℕ) (after : List B) → i < n → after ≡ sets out p (put (get_or xs i d))
        → q ≡ p + length (put (get_or xs i d)) → Putting put xs before at n (i + 1) q after
    putting_more d q after h e g =
        let l : i < length xs = omega (arith, f.room) in
        record {
          within = omega arith;
          room = f.room;
          place = omega (arith, length_more d i l, g, f.place);
          same =
              e ∙ ap (λ (l : List B). sets l p (put (get_or xs i d))) f.same
              ∙ ap (λ (j : ℕ). sets (sets before at (each put (take i xs))) j (put (get_or xs i d))) f.place
              ∙ sym (ap (sets before at) (each_more xs i d l put) ∙ sets_append before at (each put (take i xs)) (put (get_or xs i d)));
        }

    pub putting_done : n ≤ i → out ≡ sets before at (each put (take n xs))
    putting_done h = let e : i ≡ n = omega (arith, f.within) in rw e at f.same

    pub putting_place : n ≤ i → p ≡ at + length (each put (take n xs))
    putting_place h = let e : i ≡ n = omega (arith, f.within) in rw e at f.place

-- of n elements, to be copied from at on, i are copied; p is the place past them. A copy from 0 on has i for p.
pub record Copying {A : Type 0} (xs before : List A) (at n i p : ℕ) (out : List A) : Type 0 where
  pub within : i ≤ n
  pub room : n ≤ length xs
  pub place : p ≡ at + i
  pub same : out ≡ sets before at (take i xs)

module _ {A : Type 0} (xs before : List A) (at n : ℕ) where
  pub copying_start : n ≤ length xs → Copying xs before at n 0 at before
  copying_start h = record { within = omega arith; room = h; place = sym (add-zero at); same = refl }

  module _ (i p : ℕ) (out : List A) (f : Copying xs before at n i p out) where
    pub copying_length : length out ≡ length before
    copying_length = ap length f.same ∙ length-sets before at (take i xs)

    pub copying_more : (d : A) → i < n → Copying xs before at n (i + 1) (p + 1) (set out p (get_or xs i d))
    copying_more d h =
        record {
          within = omega arith;
          room = f.room;
          place = omega (arith, f.place);
          same =
              ap (λ (l : List A). set l p (get_or xs i d)) f.same
              ∙ ap (λ (j : ℕ). set (sets before at (take i xs)) j (get_or xs i d)) f.place
              ∙ sym (sets_take d before at xs i (omega (arith, f.room)));
        }

    pub copying_done : n ≤ i → out ≡ sets before at (take n xs)
    copying_done h = let e : i ≡ n = omega (arith, f.within) in rw e at f.same
