-- A part of a list, from one place on, some elements long: what writing into it does to it and to the other parts.
use mathlib.Core.Path.{◌≡◌, refl, sym, ap, ◌∙◌}
use mathlib.Core.List.{List, [], ◌∷◌}
use Prim.Native.Nat.{ℕ, zero, suc, ◌+◌, ◌-◌, ◌≤◌, ◌<◌, min}
use native.Mathlib.Nat.{zero-add, suc-add, min-eq_left, min-eq_right}
use native.Mathlib.Omega.{arith}
use lib.ListN.{length, get_or, take, drop, length-take, length-drop, drop_of_length-le}
use lib.Seq.{sets, length-sets, take_all, take-take, take-nil, drop-drop, get_or-take, get_or-drop}
use Rattle.ground.proofs.CountLaws.{split}
use Rattle.ground.proofs.PuttingLaws.{sets_stand, sets_before, sets_behind}

module _ {A : Type 0} where
  pub none : (l : List A) → length l ≡ 0 → l ≡ []
  none [] h = refl
  none (x ∷ l) h = absurd (omega arith)

  take_drop : (g m : ℕ) (l : List A) → take m (drop g l) ≡ drop g (take (g + m) l)
  take_drop zero m l = rw (zero-add m)
  take_drop (suc g) m [] = rw (take-nil (suc g + m)) (take-nil m)
  take_drop (suc g) m (x ∷ l) = rw (suc-add g m) (take_drop g m l)

  pub part_length : (f n : ℕ) (l : List A) → f + n ≤ length l → length (take n (drop f l)) ≡ n
  part_length f n l h = length-take n (drop f l) ∙ min-eq_left (rw length-drop (omega arith))

  pub part_get_d : (f n : ℕ) (l : List A) (i : ℕ) (d : A) → i < n → get_or (take n (drop f l)) i d ≡ get_or l (f + i) d
  part_get_d f n l i d h = get_or-take n (drop f l) i d h ∙ get_or-drop f l i d

  -- a part is written with as many elements as it has
  module _ (l : List A) (f n : ℕ) (vs : List A) (same : length vs ≡ length (take n (drop f l))) where
    long : length vs ≡ min n (length l - f)
    long = same ∙ length-take n (drop f l) ∙ ap (min n) (length-drop f l)

    fits : f ≤ length l → f + length vs ≤ length l
    fits h = split n (length l - f)
        (λ k. rw (long, min-eq_left k) (omega arith))
        (λ k. let m : length l - f ≤ n = omega arith in rw (long, min-eq_right m) (omega arith))

    few : length vs ≤ n
    few = split n (length l - f)
        (λ k. rw (long, min-eq_left k) (omega arith))
        (λ k. let m : length l - f ≤ n = omega arith in rw (long, min-eq_right m) m)

    gone : length l < f → drop f l ≡ []
    gone h = let k : length l ≤ f = omega arith in drop_of_length-le l k

    outside : length l < f → vs ≡ []
    outside h = none vs (same ∙ rw (gone h, take-nil n))

    -- they stand there
    pub part_stand : take n (drop f (sets l f vs)) ≡ vs
    part_stand = split f (length l) (λ h. go h) (λ h. rw (outside h, gone h, take-nil n))
      where
        wide : length (drop f (sets l f vs)) ≡ length l - f
        wide = length-drop f (sets l f vs) ∙ ap (λ (k : ℕ). k - f) (length-sets l f vs)

        go : f ≤ length l → take n (drop f (sets l f vs)) ≡ vs
        go h = split n (length l - f)
            (λ k. let m : length vs ≡ n = long ∙ min-eq_left k in rw m at (sets_stand l f vs (fits h)))
            (λ k.
            let j : length l - f ≤ n = omega arith in
            let m : length vs ≡ length l - f = long ∙ min-eq_right j in
            take_all n (drop f (sets l f vs)) (omega (arith, wide))
            ∙ sym (take_all (length vs) (drop f (sets l f vs)) (omega (arith, wide)))
            ∙ sets_stand l f vs (fits h))

    -- a part in front of it stays, and so does everything behind it
    pub part_before : (g m : ℕ) → g + m ≤ f → take m (drop g (sets l f vs)) ≡ take m (drop g l)
    part_before g m h = split f (length l) (λ k. go k) (λ k. rw (outside k))
      where
        go : f ≤ length l → take m (drop g (sets l f vs)) ≡ take m (drop g l)
        go k =
            let front : take f (sets l f vs) ≡ take f l = sets_before l f vs (fits k) in
            take_drop g m (sets l f vs)
            ∙ ap (drop g) (sym (take-take (g + m) f (sets l f vs) h) ∙ ap (take (g + m)) front ∙ take-take (g + m) f l h)
            ∙ sym (take_drop g m l)

    pub part_behind : (k : ℕ) → f + n ≤ k → drop k (sets l f vs) ≡ drop k l
    part_behind k h = split f (length l) (λ j. go j) (λ j. rw (outside j))
      where
        go : f ≤ length l → drop k (sets l f vs) ≡ drop k l
        go j =
            let s : f + length vs + (k - (f + length vs)) ≡ k = omega (arith, few) in
            let front : drop (f + length vs) (sets l f vs) ≡ drop (f + length vs) l = sets_behind l f vs (fits j) in
            ap (λ (i : ℕ). drop i (sets l f vs)) (sym s)
            ∙ sym (drop-drop (k - (f + length vs)) (f + length vs) (sets l f vs))
            ∙ ap (drop (k - (f + length vs))) front
            ∙ drop-drop (k - (f + length vs)) (f + length vs) l
            ∙ ap (λ (i : ℕ). drop i l) s
