-- The laws of an answer as one number: it says the number and the value, and each return.
use mathlib.Core.Path.{◌≡◌, refl, ap, ◌∙◌}
use Prim.Native.Nat.{ℕ, ◌+◌, ◌*◌, ◌≤◌, ◌<◌}
use native.Mathlib.Omega.{arith}
use Rattle.std.specs.Prelude.{Result, Ok, Err}
use Rattle.ground.specs.Outcome.{Outcome, taken_of, verdict_of}
use Rattle.ground.specs.Outcome.Outcome.{good, bad}
use Rattle.ground.specs.Refusals.{number_of}
use Rattle.ground.specs.declared.refusals.Refusal.{Refusal}
use Rattle.boundary.specs.Answers.{as_word, answer_number, verdict_number, written_number}

-- ---- the number and the value are in the answer, where the value is a word

pub word_below : (n : ℕ) → n < 4294967295 → n ≡ as_word n
unfolding as_word
word_below n h = omega arith

pub word_beyond : (n : ℕ) → 4294967295 ≤ n → 4294967295 ≡ as_word n
unfolding as_word
word_beyond n h = omega arith

pub word_least : (n : ℕ) → as_word n ≤ 4294967295
unfolding as_word
word_least n = omega arith

-- two answers that are equal have one number and one value
pub answer_one : (m n v w : ℕ) → answer_number m v ≡ answer_number n w → (m ≡ n) × (as_word v ≡ as_word w)
unfolding answer_number
answer_one m n v w e = (omega (arith, e, word_least v, word_least w), omega (arith, e, word_least v, word_least w))

-- ---- each return

pub length_number : (r : Result ℕ Refusal) (n w : ℕ) → r ≡ Ok n → w ≡ as_word n → w ≡ written_number r
unfolding written_number answer_number
length_number r n w e f = rw e (omega (arith, f))

pub refusal_number : (r : Result ℕ Refusal) (x : Refusal) (k w : ℕ) → r ≡ Err x → k ≡ number_of x.reason → w ≡ as_word x.position
    → k * 4294967296 + w ≡ written_number r
unfolding written_number answer_number
refusal_number r x k w e f g = rw (e, f, g) refl

module _ {A : Type 0} where
  pub taken_number : (v : Result A Refusal) (a : A) (r : ℕ) → v ≡ Ok a → r ≡ written_number (Ok 0) → r ≡ verdict_number v
  unfolding verdict_number written_number
  taken_number v a r e f = rw e f

  pub refused_number : (v : Result A Refusal) (x : Refusal) (r : ℕ) → v ≡ Err x → r ≡ written_number (Err x) → r ≡ verdict_number v
  unfolding verdict_number written_number
  refused_number v x r e f = rw e f

  -- a call that answers its value says by its number what its verdict says
  pub value_number : (o : Outcome A) (c : Result A Refusal) (r : ℕ) → c ≡ taken_of o → r ≡ verdict_number c → r ≡ verdict_number (verdict_of o)
  unfolding verdict_number taken_of verdict_of
  value_number o c r g k = k ∙ ap verdict_number g ∙ go o
    where
      go : (o : Outcome A) → verdict_number (taken_of o) ≡ verdict_number (verdict_of o)
      go (good v p) = refl
      go (bad n p) = refl
