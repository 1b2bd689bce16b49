-- The laws of writing: bytes put into a buffer, what a call answers and leaves in it, and a copy to its front.
-- Assumes nothing.
use mathlib.Core.Path.{◌≡◌, refl, ap, sym, ◌∙◌}
use Prim.Native.Nat.{ℕ, suc, ◌+◌, ◌/◌, ◌%◌, ◌≤◌, ◌<◌}
use native.Mathlib.Numerals.{add-one, add-two}
use native.Mathlib.Omega.{arith}
use mathlib.Core.List.{List, [], ◌∷◌, ◌++◌, Memᴰ}
use lib.ListN.{length, set, take, drop, replicate, length-append, length-replicate}
use lib.Seq.{sets, sets-eq, set_out}
use lib.Dec.{ltb}
use borrow.Author.Tests.{lt-ltb, le-ltb, ltb-false}
use Rattle.ground.specs.Bytes.{bytes_of}
use Rattle.ground.specs.Outcome.{Outcome, next, leaves}
use Rattle.ground.specs.Outcome.Outcome.{good, bad}
use Rattle.ground.specs.Refusing.{test}
use Rattle.ground.proofs.OutcomeLaws.{never, next_good, unless_good}
use Rattle.ground.proofs.RefusingLaws.{refusal_listed}
use Rattle.ground.proofs.PuttingLaws.{sets_append, sets_stand}
use Rattle.fields.specs.Numbers.{bytes_wide}
use Rattle.ground.specs.declared.refusals.Reason.TheVariants.{TooShort}
use Rattle.fields.specs.declared.numbers.Width.{Width}
use Rattle.fields.specs.Puts.{fitted, written_of, written_from, written_in, Puts, Fronts}
use Rattle.ground.specs.declared.refusals.Reason.{Reason}
use Rattle.ground.specs.Refusals.{refusal}
use Rattle.ground.specs.declared.refusals.Refusal.{Refusal}
use Rattle.std.specs.Prelude.{Result, Ok, Err}

-- past the end nothing is put
pub sets_out : (l : List ℕ) (i : ℕ) (vs : List ℕ) → length l ≤ i → l ≡ sets l i vs
sets_out l i [] h = refl
sets_out l i (v ∷ vs) h = rw (set_out l i v h) (sets_out l (suc i) vs (omega arith))

module _ (l : List ℕ) (at v : ℕ) (a : List ℕ) (e : a ≡ set l at (v % 256)) where
  pub put_one : a ≡ sets l at (bytes_of 1 v)
  unfolding bytes_of
  put_one = e

  module _ (b : List ℕ) (f : b ≡ set a (at + 1) (v / 256 % 256)) where
    pub put_two : b ≡ sets l at (bytes_of 2 v)
    unfolding bytes_of
    put_two = f ∙ simp (e, add-one)

pub put_four : (l : List ℕ) (at v : ℕ) (a b : List ℕ) → a ≡ sets l at (bytes_of 2 v) → b ≡ sets a (at + 2) (bytes_of 2 (v / 256 / 256))
    → b ≡ sets l at (bytes_of 4 v)
unfolding bytes_of
put_four l at v a b e f = f ∙ simp (e, add-two)

-- by a width that is known
pub put_width : (x y : Width) (l : List ℕ) (at v : ℕ) (a : List ℕ) → x ≡ y → a ≡ sets l at (bytes_of (bytes_wide y) v)
    → a ≡ sets l at (bytes_of (bytes_wide x) v)
put_width x y l at v a e h = h ∙ simp e

-- ---- an outcome as the answer and the buffer afterwards, from a start on

abbrev pub Writes : ℕ → List ℕ → Outcome (List ℕ) → Result ℕ Refusal → List ℕ → Type 0
Writes start out o answer after = (answer ≡ written_of o) × (after ≡ written_from start out o)

module _ (start : ℕ) (out : List ℕ) (o : Outcome (List ℕ)) where
  pub writes_bad : (m : Reason) (p : ℕ) → o ≡ bad m p → Writes start out o (Err (refusal m p)) out
  unfolding written_of leaves
  writes_bad m p e = (ap written_of (sym e), ap (written_from start out) (sym e))

  pub writes_good : (words : List ℕ) (p n : ℕ) (after : List ℕ) → o ≡ good words p → n ≡ length words → after ≡ sets out start words
      → Writes start out o (Ok n) after
  unfolding written_of leaves
  writes_good words p n after e f k = (rw f (ap written_of (sym e)), k ∙ ap (written_from start out) (sym e))

  pub writes_same : (o' : Outcome (List ℕ)) → o ≡ o' → (answer : Result ℕ Refusal) (after : List ℕ) → Writes start out o' answer after
      → Writes start out o answer after
  writes_same o' e answer after h = (h.0 ∙ ap written_of (sym e), h.1 ∙ ap (written_from start out) (sym e))

-- an answer turned back into the outcome
pub written_good : (o : Outcome (List ℕ)) (n : ℕ) → written_of o ≡ Ok n
    → (words : List ℕ) × (p : ℕ) × (o ≡ good words p) × (n ≡ length words)
unfolding written_of
written_good (good words p) n e = (words, p, refl, cc)
written_good (bad m p) n e = let z : ◌≡◌ {A = ℕ} 0 1 = cc in absurd (never z)

-- ---- words that fit, and those that do not

module _ (room : ℕ) (words : List ℕ) where
  pub fitted_short : room < length words → fitted room words ≡ bad TooShort 0
  unfolding fitted
  fitted_short h = rw (lt-ltb room (length words) h)

  pub fitted_fits : length words ≤ room → fitted room words ≡ good words (length words)
  unfolding fitted
  fitted_fits h = rw (le-ltb room (length words) h)

  pub fitted_good : (kept : List ℕ) (p : ℕ) → fitted room words ≡ good kept p → (kept ≡ words) × (length words ≤ room) × (p ≡ length words)
  unfolding fitted
  fitted_good kept p e =
      let (fits, same) = unless_good (ltb room (length words)) TooShort 0 (good words (length words)) kept p e in
      (cc, ltb-false _ _ fits, cc)

  pub fitted_bad : (m : Reason) (p : ℕ) → fitted room words ≡ bad m p → Memᴰ m (TooShort ∷ []) × (p ≡ 0)
  unfolding fitted
  fitted_bad m p e = refusal_listed (test (ltb room (length words)) TooShort 0 ∷ []) words (length words) m p (refl, tt) e

-- ---- a copy to the front

pub front_short : (s out : List ℕ) → length out < length s → Writes 0 out (fitted (length out) s) (Err (refusal TooShort 0)) out
front_short s out h = writes_bad 0 out _ TooShort 0 (fitted_short (length out) s h)

pub front_whole : (s out : List ℕ) → length s ≤ length out
    → Writes 0 out (fitted (length out) s) (Ok (length s)) (s ++ drop (length s) out)
front_whole s out h =
    let whole : 0 + length s ≤ length out = omega (arith, h) in
    let none : 0 + length s ≡ length s = omega arith in
    writes_good 0 out _ s (length s) (length s) _ (fitted_fits (length out) s h) refl (sym (sets-eq s out 0 whole ∙ rw none refl))

-- the bytes of what was judged, whatever it is
module _ {A : Type 0} (o : Outcome A) (bytes out : List ℕ) where
  abbrev wrote : Outcome (List ℕ)
  wrote = next o (λ _ _. fitted (length out) bytes)

  pub written_refused : (m : Reason) (q : ℕ) → o ≡ bad m q → Writes 0 out wrote (Err (refusal m q)) out
  written_refused m q h = writes_bad 0 out wrote m q (ap (λ (o : Outcome A). next o (λ _ _. fitted (length out) bytes)) h)

  pub written_front : (v : A) (p : ℕ) (l after : List ℕ) (x : Result ℕ Refusal) → o ≡ good v p → l ≡ bytes
      → Writes 0 out (fitted (length out) l) x after → Writes 0 out wrote x after
  written_front v p l after x h e y =
      writes_same 0 out wrote (fitted (length out) l)
      (ap (λ (o : Outcome A). next o (λ _ _. fitted (length out) bytes)) h ∙ ap (fitted (length out)) (sym e))
      x
      after
      y

  -- it reads back: the length says how far, and there stand the bytes
  pub written_back : (n : ℕ) → written_of wrote ≡ Ok n
      → (v : A) × (p : ℕ) × (o ≡ good v p) × (n ≡ length bytes) × (take n (written_in out wrote) ≡ bytes)
  unfolding leaves
  written_back n e =
      let (words, q, whole, long) = written_good wrote n e in
      let (v, p, taken, rest) = next_good o _ words q whole in
      let (same, room, _) = fitted_good (length out) bytes words q rest in
      let count : n ≡ length bytes = long ∙ ap (λ (l : List ℕ). length l) same in
      let stands : written_in out wrote ≡ sets out 0 bytes = ap (written_in out) whole ∙ ap (sets out 0) same in
      (v, p, taken, count, rw (stands, count) (sets_stand out 0 bytes (omega (arith, room))))

-- ---- a mark and a version, and what is put behind

pub head_long : (a b c v : ℕ) → 5 ≡ length ((a ∷ b ∷ c ∷ []) ++ bytes_of 2 v)
unfolding bytes_of
head_long a b c v = refl

pub put_head : (a b c v : ℕ) (o x y z t : List ℕ) → x ≡ set o 0 a → y ≡ set x 1 b → z ≡ set y 2 c → t ≡ sets z 3 (bytes_of 2 v)
    → t ≡ sets o 0 ((a ∷ b ∷ c ∷ []) ++ bytes_of 2 v)
unfolding bytes_of
put_head a b c v o x y z t e f g h = h ∙ simp (g, f, e)

-- bytes put behind those at the front
pub then_put : (o m t : List ℕ) (p r k l : ℕ) (a b : List ℕ) → Fronts o k a p m → Puts m p l b r t → Fronts o (k + l) (a ++ b) r t
then_put o m t p r k l a b (e, f, x) (g, h, y) =
    let z : p ≡ 0 + length a = omega arith in (
      omega (arith, length-append a b),
      h ∙ ap (λ (l : List ℕ). sets l p b) f ∙ ap (λ (i : ℕ). sets (sets o 0 a) i b) z ∙ sym (sets_append o 0 a b),
      omega arith,
    )

-- ---- what was put to the front of a fresh array that is long enough

module _ (size most : ℕ) (bytes : List ℕ) (r : ℕ) (after : List ℕ) (f : Fronts (replicate size 0) most bytes r after) (room : most ≤ size) where
  pub fresh_bytes : take r after ≡ bytes
  fresh_bytes =
      let zero : ℕ = 0 in
      let long : length (replicate size zero) ≡ size = length-replicate size zero in
      rw f.1 (rw f.0 (sets_stand (replicate size zero) 0 bytes (omega (arith, f.0, f.2))))

  pub fresh_count : r ≡ length (take r after)
  fresh_count = f.0 ∙ ap length (sym fresh_bytes)
