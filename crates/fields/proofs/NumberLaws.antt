-- The laws of numbers at a position: one for each return of the functions that read them, and what an answer says.
use mathlib.Core.Path.{◌≡◌, refl, ap, sym, ◌∙◌}
use Prim.Native.Nat.{ℕ, ◌+◌, ◌*◌, ◌≤◌, ◌<◌, min}
use native.Mathlib.Nat.{mul-zero, add-zero, add_assoc}
use native.Mathlib.Omega.{arith}
use mathlib.Core.List.{List}
use mathlib.Core.Bool.{Bool, true, false, ◌&&◌}
use lib.ListN.{length, get_or}
use lib.Dec.{leb}
use borrow.Author.Tests.{lt-leb, le-leb, leb-true, ltb-true}
use Rattle.ground.specs.Tests.{pick}
use Rattle.ground.proofs.CountLaws.{split}
use Rattle.ground.specs.Bytes.{little_end}
use Rattle.ground.specs.Outcome.{Outcome, next}
use Rattle.ground.specs.Outcome.Outcome.{good, bad}
use Rattle.ground.proofs.OutcomeLaws.{never, read_good, passes_on}
use Rattle.fields.specs.Numbers.{bytes_wide, number_at, number_that, between, under, number_in, number_below}
use Rattle.fields.specs.declared.numbers.Width.{Width}
use Rattle.ground.specs.Outcome.{read_of}
use Rattle.ground.specs.declared.refusals.Reason.TheVariants.{BeyondLimit, EndsInside}
use Rattle.ground.specs.declared.refusals.Refusal.{Refusal}
use Rattle.ground.specs.Refusals.{refusal}
use Rattle.std.specs.Prelude.{Result, Ok, Err}

-- ---- a number of w bytes

pub number_short : (w : ℕ) (s : List ℕ) (at : ℕ) → length s < at + w → Err (refusal EndsInside at) ≡ read_of (number_at w s at)
unfolding number_at read_of
number_short w s at h = simp (lt-leb _ _ h)

pub number_is : (w : ℕ) (s : List ℕ) (at v : ℕ) → at + w ≤ length s → v ≡ little_end w s at → Ok (v, at + w) ≡ read_of (number_at w s at)
unfolding number_at read_of
number_is w s at v h e = simp (le-leb _ _ h) (ap (λ x. Ok (x, at + w)) e)

pub one_byte : (s : List ℕ) (at : ℕ) → little_end 1 s at ≡ get_or s at 0
unfolding little_end
one_byte s at = simp (mul-zero, add-zero)

pub two_bytes : (s : List ℕ) (at : ℕ) → little_end 2 s at ≡ get_or s at 0 + 256 * get_or s (at + 1) 0
unfolding little_end
two_bytes s at = simp (mul-zero, add-zero)

pub four_bytes : (s : List ℕ) (at : ℕ)
    → little_end 4 s at ≡ get_or s at 0 + 256 * (get_or s (at + 1) 0 + 256 * (get_or s (at + 2) 0 + 256 * get_or s (at + 3) 0))
unfolding little_end
four_bytes s at = simp (mul-zero, add-zero, add_assoc)

-- by a width that is known
pub at_width : (x y : Width) (s : List ℕ) (at : ℕ) (r : Result (ℕ × ℕ) Refusal) → x ≡ y → r ≡ read_of (number_at (bytes_wide y) s at)
    → r ≡ read_of (number_at (bytes_wide x) s at)
at_width x y s at r e h = h ∙ simp e

-- ---- a number that passes a test

module _ (fits : ℕ → Bool) (w : ℕ) (s : List ℕ) (at : ℕ) (r : Result (ℕ × ℕ) Refusal) (e : r ≡ read_of (number_at w s at)) where
  pub that_refused : (x : Refusal) → r ≡ Err x → Err x ≡ read_of (number_that fits w s at)
  unfolding number_that
  that_refused x g = passes_on (number_at w s at) _ r e x g

  pub that_no : (v p : ℕ) → r ≡ Ok (v, p) → fits v ≡ false → Err (refusal BeyondLimit at) ≡ read_of (number_that fits w s at)
  unfolding number_that read_of
  that_no v p g h = simp (read_good (number_at w s at) r v p e g, h)

  pub that_yes : (v p : ℕ) → r ≡ Ok (v, p) → fits v ≡ true → Ok (v, p) ≡ read_of (number_that fits w s at)
  unfolding number_that read_of
  that_yes v p g h = simp (read_good (number_at w s at) r v p e g, h)

module _ (low high v : ℕ) where
  pub between_low : v < low → between low high v ≡ false
  between_low h = simp (lt-leb _ _ h)

  pub between_high : low ≤ v → high < v → between low high v ≡ false
  between_high l h = simp (le-leb _ _ l, lt-leb _ _ h)

  pub between_in : low ≤ v → v ≤ high → between low high v ≡ true
  between_in l h = simp (le-leb _ _ l, le-leb _ _ h)

  between_by : (a b : Bool) → leb low v ≡ a → leb v high ≡ b → (a && b) ≡ true → (low ≤ v) × (v ≤ high)
  between_by true true p q e = (leb-true low v p, leb-true v high q)
  between_by true false p q e = let z : ◌≡◌ {A = ℕ} 0 1 = cc in absurd (never z)
  between_by false b p q e = let z : ◌≡◌ {A = ℕ} 0 1 = cc in absurd (never z)

  pub between_true : between low high v ≡ true → (low ≤ v) × (v ≤ high)
  between_true e = between_by (leb low v) (leb v high) refl refl e

-- ---- what is known of a number that was read: it passed the test, and the position past it lies within the bytes

at_by : (w : ℕ) (s : List ℕ) (at u v p : ℕ) (a : Bool) → leb (at + w) (length s) ≡ a → pick a (good u (at + w)) (bad EndsInside at) ≡ good v p
    → (p ≡ at + w) × (p ≤ length s) × (v ≡ u)
at_by w s at u v p true h e = let k : p ≡ at + w = cc in (k, omega (arith, leb-true (at + w) (length s) h), cc)
at_by w s at u v p false h e = let z : ◌≡◌ {A = ℕ} 0 1 = cc in absurd (never z)

pub at_good : (w : ℕ) (s : List ℕ) (at v p : ℕ) → number_at w s at ≡ good v p → (p ≡ at + w) × (p ≤ length s) × (v ≡ little_end w s at)
unfolding number_at
at_good w s at v p e = at_by w s at (little_end w s at) v p (leb (at + w) (length s)) refl e

that_by : (fits : ℕ → Bool) (at v p : ℕ) (o : Outcome ℕ) (b : ℕ → Bool) → ((x : ℕ) → fits x ≡ b x)
    → next o (λ x q. pick (b x) (good x q) (bad BeyondLimit at)) ≡ good v p → (fits v ≡ true) × (o ≡ good v p)
that_by fits at v p (good u q) b h e = go (b u) refl e
  where
    go : (c : Bool) → b u ≡ c → pick c (good u q) (bad BeyondLimit at) ≡ good v p → (fits v ≡ true) × (good u q ≡ good v p)
    go true k f = let m : u ≡ v = cc in (ap fits (sym m) ∙ h u ∙ k, f)
    go false k f = let z : ◌≡◌ {A = ℕ} 0 1 = cc in absurd (never z)
that_by fits at v p (bad n q) b h e = let z : ◌≡◌ {A = ℕ} 0 1 = cc in absurd (never z)

pub that_good : (fits : ℕ → Bool) (w : ℕ) (s : List ℕ) (at v p : ℕ) → number_that fits w s at ≡ good v p
    → (fits v ≡ true) × (number_at w s at ≡ good v p)
unfolding number_that
that_good fits w s at v p e = that_by fits at v p (number_at w s at) fits (λ x. refl) e

pub in_good : (w low high : ℕ) (s : List ℕ) (at v p : ℕ) → number_in w low high s at ≡ good v p → (low ≤ v) × (v ≤ high)
in_good w low high s at v p e = between_true low high v (that_good (between low high) w s at v p e).0

pub below_good : (w limit : ℕ) (s : List ℕ) (at v p : ℕ) → number_below w limit s at ≡ good v p → v < limit
below_good w limit s at v p e = ltb-true v limit (that_good (under limit) w s at v p e).0

-- the same of an answer
module _ (w : ℕ) (s : List ℕ) (at : ℕ) (r : Result (ℕ × ℕ) Refusal) (v p : ℕ) (g : r ≡ Ok (v, p)) where
  pub read_in : (low high : ℕ) → r ≡ read_of (number_in w low high s at) → (low ≤ v) × (v ≤ high)
  read_in low high e = in_good w low high s at v p (read_good _ r v p e g)

  pub read_below : (limit : ℕ) → r ≡ read_of (number_below w limit s at) → v < limit
  read_below limit e = below_good w limit s at v p (read_good _ r v p e g)

-- ---- a number of one byte is at most 255, so that a limit that is greater is none

below_256 : (size v : ℕ) → v < 256 → leb v (min size 255) ≡ leb v size
below_256 size v small =
    split v size (λ h. le-leb v (min size 255) (omega arith) ∙ sym (le-leb v size h)) (λ h. lt-leb v (min size 255) (omega arith) ∙ sym (lt-leb v size h))

limit_by : (low size at : ℕ) (o : Outcome ℕ) → ((v p : ℕ) → o ≡ good v p → v < 256)
    → next o (λ v p. pick (between low (min size 255) v) (good v p) (bad BeyondLimit at))
    ≡ next o (λ v p. pick (between low size v) (good v p) (bad BeyondLimit at))
limit_by low size at (good v p) small =
    ap (λ (b : Bool). pick (leb low v && b) (good v p) (bad BeyondLimit at)) (below_256 size v (small v p refl))
limit_by low size at (bad m p) small = refl

pub byte_limit : (low size high : ℕ) (s : List ℕ) (at : ℕ) (r : Result (ℕ × ℕ) Refusal) → r ≡ read_of (number_in 1 low high s at)
    → high ≡ min size 255 → get_or s at 0 < 256 → r ≡ read_of (number_in 1 low size s at)
unfolding number_that
byte_limit low size high s at r h e small =
    h ∙ ap (λ (x : ℕ). read_of (number_in 1 low x s at)) e
    ∙ ap read_of (limit_by low size at (number_at 1 s at) (λ v p y. omega (arith, (at_good 1 s at v p y).2, one_byte s at)))
