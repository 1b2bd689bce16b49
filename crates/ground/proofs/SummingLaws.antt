-- A loop that adds up what a function gives for the elements of a list, each at most a cap, so that the total has a bound.
use mathlib.Core.Path.{◌≡◌, refl, sym, ap, ◌∙◌}
use mathlib.Core.List.{List, map}
use Prim.Native.Nat.{ℕ, ◌+◌, ◌*◌, ◌≤◌, ◌<◌}
use native.Mathlib.Nat.{mul-add, mul-one}
use native.Mathlib.Omega.{arith}
use lib.ListN.{length, get_or, take}
use lib.Seq.{take_all}
use Rattle.ground.specs.Lists.{sum}
use Rattle.ground.proofs.ListLaws.{sum_more}

-- of the list l the first i are added up, each at most cap
pub record Summing {A : Type 0} (cap : ℕ) (f : A → ℕ) (l : List A) (i total : ℕ) : Type 0 where
  pub within : i ≤ length l
  pub same : total ≡ sum (map f (take i l))
  pub small : total ≤ cap * i

module _ {A : Type 0} (cap : ℕ) (f : A → ℕ) (l : List A) where
  pub summing_start : Summing cap f l 0 0
  summing_start = record { within = omega arith; same = refl; small = omega arith }

  module _ (i total : ℕ) (s : Summing cap f l i total) where
    pub summing_more : (d : A) → i < length l → (v : ℕ) → v ≡ f (get_or l i d) → v ≤ cap → Summing cap f l (i + 1) (total + v)
    summing_more d h v e m =
        let w : cap * (i + 1) ≡ cap * i + cap = mul-add cap i 1 ∙ rw (mul-one cap) in
        record {
          within = omega arith;
          same = rw (e, s.same) (sym (sum_more l i d h f));
          small = rw w (omega (arith, s.small, m));
        }

    pub summing_done : length l ≤ i → total ≡ sum (map f l)
    summing_done h = s.same ∙ ap (λ (k : List A). sum (map f k)) (take_all i l h)
