-- Marks beside the rows of one table: what a sieve by some values in a column leaves, and how many rows it removes.
use mathlib.Core.Path.{◌≡◌, refl, ap}
use mathlib.Core.Bool.{Bool, true, false}
use mathlib.Core.List.{List, [], ◌∷◌}
use Prim.Native.Nat.{ℕ, zero, suc, ◌+◌, ◌≤◌, ◌<◌}
use native.Mathlib.Nat.{le_of_suc-le-suc, not-suc-le-zero}
use native.Mathlib.Omega.{arith}
use lib.ListN.{length, get_or}
use Rattle.ground.specs.Tests.{pick}
use Rattle.ground.specs.Lists.{cons_if, filter}
use Rattle.paths.specs.Meaning.{Row, Table, word_in}
use Rattle.tables.specs.Rising.{among}
use Rattle.tables.specs.Rows.{is_kept, kept_of}
use Rattle.semijoin.specs.Marks.{sieved, removed_of}

module _ (values : List ℕ) (c : ℕ) where
  -- a row's value is among them
  abbrev pub occurs : Row → Bool
  occurs row = among values (word_in row c)

  pub sieved_length : (ms : List ℕ) (t : Table) → length (sieved values c ms t) ≡ length ms
  unfolding sieved
  sieved_length [] t = refl
  sieved_length (m ∷ ms) [] = refl
  sieved_length (m ∷ ms) (row ∷ t) = ap suc (sieved_length ms t)

  -- a removed row has 0, every other byte stays
  pub sieved_at : (ms : List ℕ) (t : Table) (i : ℕ) → i < length t
      → get_or (sieved values c ms t) i 0 ≡ pick (occurs (get_or t i [])) (get_or ms i 0) 0
  unfolding sieved
  sieved_at [] t i h = go (occurs (get_or t i []))
    where
      go : (b : Bool) → ◌≡◌ {A = ℕ} 0 (pick b 0 0)
      go true = refl
      go false = refl
  sieved_at (m ∷ ms) [] i h = absurd (not-suc-le-zero h)
  sieved_at (m ∷ ms) (row ∷ t) zero h = refl
  sieved_at (m ∷ ms) (row ∷ t) (suc i) h = sieved_at ms t i (le_of_suc-le-suc h)

  pub sieved_past : (ms : List ℕ) (t : Table) (i : ℕ) → length t ≤ i → get_or (sieved values c ms t) i 0 ≡ get_or ms i 0
  unfolding sieved
  sieved_past [] t i h = refl
  sieved_past (m ∷ ms) [] i h = refl
  sieved_past (m ∷ ms) (row ∷ t) zero h = absurd (not-suc-le-zero h)
  sieved_past (m ∷ ms) (row ∷ t) (suc i) h = sieved_past ms t i (le_of_suc-le-suc h)

  -- of the kept rows exactly those whose value is among them are kept, in their order
  pub kept_sieved : (ms : List ℕ) (t : Table) → kept_of (sieved values c ms t) t ≡ filter occurs (kept_of ms t)
  unfolding sieved kept_of
  kept_sieved [] t = refl
  kept_sieved (m ∷ ms) [] = refl
  kept_sieved (m ∷ ms) (row ∷ t) = go (is_kept m) refl (occurs row) refl (kept_sieved ms t)
    where
      go : (k : Bool) → is_kept m ≡ k → (b : Bool) → occurs row ≡ b → kept_of (sieved values c ms t) t ≡ filter occurs (kept_of ms t)
          → cons_if (is_kept (pick b m 0)) row (kept_of (sieved values c ms t) t) ≡ filter occurs (cons_if k row (kept_of ms t))
      go true k true b e = rw (k, b, e)
      go true k false b e = rw (b, e)
      go false k true b e = rw (k, e)
      go false k false b e = e

  -- so the kept ones were as many as there are now, and the removed ones
  pub removed_kept : (ms : List ℕ) (t : Table) → length (kept_of ms t) ≡ length (kept_of (sieved values c ms t) t) + removed_of values c ms t
  unfolding sieved kept_of removed_of
  removed_kept [] t = refl
  removed_kept (m ∷ ms) [] = refl
  removed_kept (m ∷ ms) (row ∷ t) = go (is_kept m) refl (occurs row) (removed_kept ms t)
    where
      now : Table
      now = kept_of (sieved values c ms t) t

      go : (k : Bool) → is_kept m ≡ k → (b : Bool) → length (kept_of ms t) ≡ length now + removed_of values c ms t
          → length (cons_if k row (kept_of ms t))
          ≡ length (cons_if (is_kept (pick b m 0)) row now) + (pick b 0 (pick k 1 0) + removed_of values c ms t)
      go true k true e = rw k (omega arith)
      go true k false e = omega arith
      go false k true e = rw k (omega arith)
      go false k false e = omega arith

-- values that are alike sieve alike
pub sieved_alike : (values others : List ℕ) (c : ℕ) → ((v : ℕ) → among values v ≡ among others v) → (ms : List ℕ) (t : Table)
    → sieved values c ms t ≡ sieved others c ms t
unfolding sieved
sieved_alike values others c h [] t = refl
sieved_alike values others c h (m ∷ ms) [] = refl
sieved_alike values others c h (m ∷ ms) (row ∷ t) = rw (h (word_in row c), sieved_alike values others c h ms t)
