-- A loop that finds the first of greatest gain: it keeps what it has, with its gain, unless the next gains more. A gain of 0
-- says that it has none.
use mathlib.Core.Path.{◌≡◌, refl, sym, ap, ◌∙◌}
use mathlib.Core.List.{List}
use mathlib.Core.Logic.{◌⊎◌, inl, inr}
use mathlib.Core.Option.{Option, none, some}
use Prim.Native.Nat.{ℕ, ◌+◌, ◌≤◌, ◌<◌}
use native.Mathlib.Numerals.{add-one}
use native.Mathlib.Omega.{arith}
use borrow.Author.Tests.{lt-ltb, le-ltb}
use lib.ListN.{length, get_or, take}
use lib.Seq.{take-suc, take_all, length-take-le}
use Rattle.ground.specs.Choice.{first_of_greatest}
use Rattle.ground.proofs.UsedLaws.{used_inside}
use Rattle.ground.proofs.ChoiceLaws.{or_later, greatest_later}

module _ {A : Type 0} (gain : A → ℕ) where
  abbrev Held : Option A → A → ℕ → Type 0
  Held o best most = ((o ≡ none) × (most ≡ 0)) ⊎ ((o ≡ some best) × (0 < most) × (most ≡ gain best))

  held_more : (o : Option A) (best : A) (most : ℕ) → Held o best most → (x : A) → most < gain x → Held (or_later gain o x) x (gain x)
  held_more o best most (inl (e, z)) x h = inr (rw (e, lt-ltb 0 (gain x) (omega arith)), omega arith, refl)
  held_more o best most (inr (e, _, g)) x h = inr (rw (e, lt-ltb (gain best) (gain x) (omega arith)), omega arith, refl)

  held_less : (o : Option A) (best : A) (most : ℕ) → Held o best most → (x : A) → gain x ≤ most → Held (or_later gain o x) best most
  held_less o best most (inl (e, z)) x h = inl (rw (e, le-ltb 0 (gain x) (omega arith)), z)
  held_less o best most (inr (e, l, g)) x h = inr (rw (e, le-ltb (gain best) (gain x) (omega arith)), l, g)

  held_none : (o : Option A) (best : A) (most : ℕ) → Held o best most → most ≡ 0 → o ≡ none
  held_none o best most (inl (e, z)) h = e
  held_none o best most (inr (e, l, g)) h = absurd (omega arith)

  held_some : (o : Option A) (best : A) (most : ℕ) → Held o best most → (most ≡ 0 → ⊥) → o ≡ some best
  held_some o best most (inl (e, z)) h = absurd (h z)
  held_some o best most (inr (e, l, g)) h = e

-- of the list l the first i are looked at
pub record Choosing {A : Type 0} (gain : A → ℕ) (l : List A) (i : ℕ) (best : A) (most : ℕ) : Type 0 where
  pub within : i ≤ length l
  pub held : Held gain (first_of_greatest gain (take i l)) best most

module _ {A : Type 0} (gain : A → ℕ) (l : List A) where
  pub choosing_start : (z : A) → Choosing gain l 0 z 0
  choosing_start z = record { within = omega arith; held = inl (refl, refl) }

  module _ (i : ℕ) (best : A) (most : ℕ) (c : Choosing gain l i best most) where
    module _ (d : A) (h : i < length l) where
      one_more : first_of_greatest gain (take (i + 1) l) ≡ or_later gain (first_of_greatest gain (take i l)) (get_or l i d)
      one_more =
          ap (λ (n : ℕ). first_of_greatest gain (take n l)) (add-one i)
          ∙ ap (first_of_greatest gain) (take-suc l i d h) ∙ greatest_later gain (take i l) (get_or l i d)

      pub choosing_more : most < gain (get_or l i d) → Choosing gain l (i + 1) (get_or l i d) (gain (get_or l i d))
      choosing_more k = record { within = omega arith; held = rw one_more (held_more gain _ best most c.held (get_or l i d) k) }

      pub choosing_less : gain (get_or l i d) ≤ most → Choosing gain l (i + 1) best most
      choosing_less k = record { within = omega arith; held = rw one_more (held_less gain _ best most c.held (get_or l i d) k) }

    pub choosing_none : length l ≤ i → most ≡ 0 → first_of_greatest gain l ≡ none
    choosing_none h z = rw (take_all i l h) at (held_none gain (first_of_greatest gain (take i l)) best most c.held z)

    pub choosing_some : length l ≤ i → (most ≡ 0 → ⊥) → first_of_greatest gain l ≡ some best
    choosing_some h z = rw (take_all i l h) at (held_some gain (first_of_greatest gain (take i l)) best most c.held z)

-- ---- among the first n of an array

abbrev pub Seeking : {A : Type 0} → (A → ℕ) → List A → ℕ → ℕ → A → ℕ → Type 0
Seeking gain xs n i best most = Choosing gain (take n xs) i best most

module _ {A : Type 0} (gain : A → ℕ) (xs : List A) (n size : ℕ) (few : n ≤ size) (long : length xs ≡ size) (z : A)
    (i : ℕ) (best : A) (most : ℕ) (c : Seeking gain xs n i best most) where
  used : length (take n xs) ≡ n
  used = length-take-le n xs (omega arith)

  module _ (h : i < n) (v : ℕ) (f : v ≡ gain (get_or xs i z)) where
    at : get_or (take n xs) i z ≡ get_or xs i z
    at = used_inside xs n i z h

    gains : gain (get_or (take n xs) i z) ≡ v
    gains = ap gain at ∙ sym f

    pub seeking_more : most < v → (best' : A) (most' : ℕ) → best' ≡ get_or xs i z → most' ≡ v → Seeking gain xs n (i + 1) best' most'
    seeking_more l best' most' s t =
        rw (s, t) (rw (gains, at) at (choosing_more gain (take n xs) i best most c z (omega (arith, used)) (omega (arith, gains))))

    pub seeking_less : v ≤ most → (best' : A) (most' : ℕ) → best' ≡ best → most' ≡ most → Seeking gain xs n (i + 1) best' most'
    seeking_less l best' most' s t =
        rw (s, t) (choosing_less gain (take n xs) i best most c z (omega (arith, used)) (omega (arith, gains)))

  pub seeking_none : n ≤ i → most ≡ 0 → first_of_greatest gain (take n xs) ≡ none
  seeking_none h e = choosing_none gain (take n xs) i best most c (omega (arith, used)) e

  pub seeking_some : n ≤ i → (most ≡ 0 → ⊥) → first_of_greatest gain (take n xs) ≡ some best
  seeking_some h e = choosing_some gain (take n xs) i best most c (omega (arith, used)) e
