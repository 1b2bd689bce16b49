-- What it means that a paper, or a part of it, is read exactly as it is written: a value is taken, up to a position,
-- exactly when the value is fine and the bytes it is written as stand from the reading's start to that position.
use Rattle.std.specs.Prelude.{ℕ, ◌+◌, ◌≤◌, ◌≡◌, List, length}
use Rattle.ground.specs.Bytes.{Bytes, Stands}
use Rattle.ground.specs.Outcome.{Outcome}
use Rattle.ground.specs.Outcome.Outcome.{good}

-- the list w stands in s from at to p
abbrev pub Spans : List ℕ → List ℕ → ℕ → ℕ → Type 0
Spans w s at p = (p ≡ at + length w) × Stands w s at

-- o is what is read of s from at on: a value of those that are fine where it ends, by the bytes it is written as
pub record Reads {A : Type 0} (s : List ℕ) (at : ℕ) (o : Outcome A) (bytes : A → List ℕ) (Fine : A → ℕ → Type 0) : Type 0 where
  pub sound : (v : A) (p : ℕ) → Bytes s → o ≡ good v p → Fine v p × Spans (bytes v) s at p
  pub complete : (v : A) (p : ℕ) → Fine v p → Spans (bytes v) s at p → p ≤ length s → o ≡ good v p

-- the same where it does not matter where the value ends
abbrev pub Exact : {A : Type 0} → List ℕ → ℕ → Outcome A → (A → List ℕ) → (A → Type 0) → Type 0
Exact s at o bytes Fine = Reads s at o bytes (λ v _. Fine v)
