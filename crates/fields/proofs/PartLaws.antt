-- The laws of parts put one behind the other: one more, that it stays within the bound, and what stands there in the end; and the same
-- from any position on.
use mathlib.Core.Path.{◌≡◌, refl, ap, sym, ◌∙◌}
use mathlib.Core.List.{List, ◌++◌}
use Prim.Native.Nat.{ℕ, ◌+◌, ◌*◌, ◌^◌, ◌≤◌, ◌<◌, min}
use native.Mathlib.Numerals.{add-one}
use native.Mathlib.Nat.{mul-suc}
use native.Mathlib.Omega.{arith}
use lib.ListN.{length, get_or, length-append}
use lib.Seq.{sets, take-length, length-sets}
use Rattle.std.proofs.Math.Nat.{mul-le-mul_left}
use Rattle.ground.specs.Lists.{each}
use Rattle.ground.specs.Bytes.{bytes_of}
use Rattle.ground.proofs.CountLaws.{split}
use Rattle.ground.proofs.PuttingLaws.{putting_place, putting_done, sets_append}
use Rattle.ground.proofs.WritingLaws.{Writing, writing_start, writing_more}
use Rattle.fields.specs.Puts.{Puts, PutsAnywhere, greatest}
use Rattle.fields.proofs.PutLaws.{sets_out}

module _ {A : Type 0} (put : A → List ℕ) (most : ℕ) (xs : List A) (before : List ℕ) (at i p : ℕ) (out : List ℕ)
    (w : Writing put most xs before at (length xs) i p out) where
  pub part_more : i < length xs → (d : A) → d ≡ get_or xs i d → (q : ℕ) (after : List ℕ) → Puts out p most (put d) q after
      → Writing put most xs before at (length xs) (i + 1) q after
  part_more h d e q after (g, k, l) =
      writing_more put most xs before at (length xs) i p out w d q after h
      (g ∙ ap (λ (x : A). p + length (put x)) e)
      (k ∙ ap (λ (x : A). sets out p (put x)) e)
      l

  pub part_within : i < length xs → at + most * length xs ≤ 100000 → p + most ≤ 100000
  part_within h b =
      let more : most * (i + 1) ≡ most * i + most = ap (λ k. most * k) (add-one i) ∙ mul-suc most i in
      let all : most * (i + 1) ≤ most * length xs = mul-le-mul_left most (omega arith) in
      omega (arith, w.near, more, all)

  pub parts_put : length xs ≤ i → Puts before at (most * length xs) (each put xs) p out
  parts_put h =
      let within : most * i ≤ most * length xs = mul-le-mul_left most w.putting.within in (
        putting_place put xs before at (length xs) i p out w.putting h ∙ rw take-length refl,
        putting_done put xs before at (length xs) i p out w.putting h ∙ rw take-length refl,
        omega (arith, w.near, within),
      )

-- ---- a part behind another, and a bound that is wider

module _ (o m : List ℕ) (at p k : ℕ) (a : List ℕ) (f : Puts o at k a p m) where
  pub then_part : (t : List ℕ) (r l : ℕ) (b : List ℕ) → Puts m p l b r t → Puts o at (k + l) (a ++ b) r t
  then_part t r l b (g, h, y) =
      let (e, n, x) = f in (
        omega (arith, length-append a b),
        h ∙ ap (λ (l : List ℕ). sets l p b) n ∙ ap (λ (i : ℕ). sets (sets o at a) i b) e ∙ sym (sets_append o at a b),
        omega arith,
      )

  pub wider_part : (l : ℕ) → k ≤ l → Puts o at l a p m
  wider_part l h = (f.0, f.1, omega (arith, f.2))

-- a number is one
pub one_put : (o m : List ℕ) (at v : ℕ) → m ≡ sets o at (bytes_of 1 v) → Puts o at 1 (bytes_of 1 v) (at + 1) m
unfolding bytes_of
one_put o m at v e = (refl, e, omega arith)

pub four_put : (o m : List ℕ) (at v : ℕ) → m ≡ sets o at (bytes_of 4 v) → Puts o at 4 (bytes_of 4 v) (at + 4) m
unfolding bytes_of
four_put o m at v e = (refl, e, omega arith)

-- ---- from any position on

-- a position past the greatest puts nothing, as the greatest does
sets_ended : (l : List ℕ) (e : ℕ) (b : List ℕ) → length l < 2 ^ 64 → sets l (min e greatest) b ≡ sets l e b
sets_ended l e b size =
    split e greatest
    (λ h.
    let same : min e greatest ≡ e = omega arith in
    ap (λ (i : ℕ). sets l i b) same)
    (λ h.
    let end : min e greatest ≡ greatest = omega arith in
    ap (λ (i : ℕ). sets l i b) end ∙ sym (sets_out l greatest b (omega arith)) ∙ sets_out l e b (omega arith))

-- what is put at a position that fits or not is answered by as much of it as there is
pub ended : (o m : List ℕ) (at p k e : ℕ) (a : List ℕ) → Puts o at k a e m → p ≡ min e greatest → PutsAnywhere o at k a p m
ended o m at p k e a (g, h, y) f = (f ∙ ap (λ (n : ℕ). min n greatest) g, (refl, h, omega arith))

module _ (o m : List ℕ) (at p k : ℕ) (a : List ℕ) (f : PutsAnywhere o at k a p m) where
  -- where the positions fit, they are exact
  pub exact : at + k < 2 ^ 64 → Puts o at k a p m
  exact h = (omega (arith, f.0, f.1.2), f.1.1, omega (arith, f.0, f.1.2))

  -- what follows of it at exact positions follows at any
  pub carried : (l : ℕ) (b : List ℕ) → (Puts o at k a (at + length a) m → Puts o at l b (at + length a) m) → PutsAnywhere o at l b p m
  carried l b h = ended o m at p l (at + length a) b (h f.1) f.0

  -- of another behind it too
  module _ (t : List ℕ) (r l : ℕ) (b : List ℕ) (g : PutsAnywhere m p l b r t) (size : length o < 2 ^ 64) where
    behind : Puts m (at + length a) l b (at + length a + length b) t
    behind =
        let long : length m < 2 ^ 64 = omega (arith, ap length f.1.1, length-sets o at a) in
        (refl, g.1.1 ∙ ap (λ (i : ℕ). sets m i b) f.0 ∙ sets_ended m (at + length a) b long, omega (arith, g.1.2))

    pub carried_both : (n : ℕ) (c : List ℕ)
        → (Puts o at k a (at + length a) m → Puts m (at + length a) l b (at + length a + length b) t
        → Puts o at n c (at + length a + length b) t) → PutsAnywhere o at n c r t
    carried_both n c h = ended o t at r n (at + length a + length b) c (h f.1 behind) (omega (arith, g.0, f.0))

    pub then_anywhere : PutsAnywhere o at (k + l) (a ++ b) r t
    then_anywhere =
        carried_both (k + l) (a ++ b) (λ x y. then_part o m at (at + length a) k a x t (at + length a + length b) l b y)

-- of a list's parts i are put: the exact position past them, and what is answered of it
pub record Landing {A : Type 0} (put : A → List ℕ) (most : ℕ) (xs : List A) (before : List ℕ) (at i p : ℕ) (out : List ℕ) : Type 0 where
  pub end : ℕ
  pub writing : Writing put most xs before at (length xs) i end out
  pub answered : p ≡ min end greatest

module _ {A : Type 0} (put : A → List ℕ) (most : ℕ) (xs : List A) (before : List ℕ) (at : ℕ) where
  pub landing_start : (p : ℕ) → p ≡ min at greatest → Landing put most xs before at 0 p before
  landing_start p h = record { end = at; writing = writing_start put most xs before at (length xs) (omega arith); answered = h }

  module _ (i p : ℕ) (out : List ℕ) (w : Landing put most xs before at i p out) where
    pub landing_more : i < length xs → length before < 2 ^ 64 → (d : A) → d ≡ get_or xs i d → (q : ℕ) (after : List ℕ)
        → PutsAnywhere out p most (put d) q after → Landing put most xs before at (i + 1) q after
    landing_more h size d e q after f =
        let long : length out < 2 ^ 64 = omega (arith, w.writing.long) in
        let there : after ≡ sets out w.end (put d) =
        f.1.1 ∙ ap (λ (j : ℕ). sets out j (put d)) w.answered ∙ sets_ended out w.end (put d) long in
        record {
          end = w.end + length (put d);
          writing =
              part_more put most xs before at i w.end out w.writing h d e (w.end + length (put d)) after
              (refl, there, omega (arith, f.1.2));
          answered = omega (arith, f.0, w.answered);
        }

    pub landing_done : length xs ≤ i → PutsAnywhere before at (most * length xs) (each put xs) p out
    landing_done h =
        ended before out at p (most * length xs) w.end (each put xs) (parts_put put most xs before at i w.end out w.writing h) w.answered
