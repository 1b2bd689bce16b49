-- A loop that fills an array with what a function gives for the numbers of its places.
use mathlib.Core.Path.{◌≡◌, sym, ap, ◌∙◌}
use mathlib.Core.List.{List, [], ◌∷◌, ◌++◌, map}
use Prim.Native.Nat.{ℕ, ◌+◌, ◌≤◌, ◌<◌}
use native.Mathlib.Omega.{arith}
use lib.ListN.{length, set, replicate, length-map}
use Rattle.ground.specs.Lists.{below, numbers_from, padded}
use Rattle.ground.proofs.NumbersLaws.{below_length, map_below}
use Rattle.ground.proofs.CollectingLaws.{padded_nil, padded_full, padded_push, padded_length}

-- i places are filled by f
pub record Numbering {A : Type 0} (size : ℕ) (z : A) (f : ℕ → A) (i : ℕ) (out : List A) : Type 0 where
  pub within : i ≤ size
  pub same : out ≡ padded size z (map f (below i))

module _ {A : Type 0} (size : ℕ) (z : A) (f : ℕ → A) where
  pub numbering_start : Numbering size z f 0 (replicate size z)
  unfolding numbers_from
  numbering_start = record { within = omega arith; same = sym (padded_nil size z) }

  -- where what the array is made of is known by an equation
  pub numbering_from : (x : A) → x ≡ z → Numbering size z f 0 (replicate size x)
  numbering_from x e = rw e numbering_start

  module _ (i : ℕ) (out : List A) (g : Numbering size z f i out) where
    filled : length (map f (below i)) ≡ i
    filled = length-map (below i) f ∙ below_length i

    pub numbering_long : length out ≡ size
    numbering_long = ap length g.same ∙ padded_length size z (map f (below i)) (omega (arith, filled, g.within))

    pub numbering_more : i < size → (v : A) → v ≡ f i → Numbering size z f (i + 1) (set out i v)
    numbering_more h v e =
        record {
          within = omega arith;
          same =
              ap (λ (r : List A). set r i v) g.same
              ∙ ap (λ (k : ℕ). set (padded size z (map f (below i))) k v) (sym filled)
              ∙ padded_push size z (map f (below i)) v (omega (arith, filled))
              ∙ ap (λ (x : A). padded size z (map f (below i) ++ (x ∷ []))) e
              ∙ ap (padded size z) (sym (map_below f i));
        }

    pub numbering_done : size ≤ i → out ≡ map f (below size)
    numbering_done h =
        let e : i ≡ size = omega (arith, g.within) in
        g.same ∙ padded_full size z (map f (below i)) (omega (arith, filled)) ∙ ap (λ (k : ℕ). map f (below k)) e
