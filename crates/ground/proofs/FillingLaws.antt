-- A loop that reads some of a kind into an array: what holds at its head, from its start to its end. The kind may depend
-- on the number read; where it does not, item is λ _. f, and `numbered item 0` is `many f`.
use mathlib.Core.Path.{◌≡◌, ap, sym, ◌∙◌}
use mathlib.Core.List.{List, [], ◌∷◌, ◌++◌, append-nil}
use Prim.Native.Nat.{ℕ, ◌+◌, ◌-◌, ◌≤◌, ◌<◌}
use native.Mathlib.Numerals.{add-one}
use native.Mathlib.Nat.{sub-zero, sub_self}
use native.Mathlib.Omega.{arith}
use lib.ListN.{length, take, drop, set, replicate, length-set, length-replicate, take-append-drop}
use lib.Seq.{take-suc-set, drop-set-lt, drop-drop, length-take-le}
use Rattle.ground.specs.Lists.{padded}
use Rattle.ground.specs.Outcome.{Outcome, and_more, numbered}
use Rattle.ground.specs.Outcome.Outcome.{good, bad}
use Rattle.ground.proofs.CountLaws.{left_suc}
use Rattle.ground.proofs.OutcomeLaws.{more_none, more_more}
use Rattle.ground.specs.declared.refusals.Reason.{Reason}

-- of n to be read from at on, i are read, and stand in front in the array; p is the position past them
pub record Filling {A : Type 0} (size : ℕ) (z : A) (item : ℕ → ℕ → Outcome A) (n at i p : ℕ) (out : List A) : Type 0 where
  pub within : i ≤ n
  pub room : n ≤ size
  pub long : length out ≡ size
  pub rest : drop i out ≡ replicate (size - i) z
  pub same : numbered item 0 n at ≡ and_more (take i out) (numbered item i (n - i) p)

pub filling_start : {A : Type 0} (size : ℕ) (z : A) (item : ℕ → ℕ → Outcome A) (n at : ℕ) → n ≤ size
    → Filling size z item n at 0 at (replicate size z)
filling_start size z item n at h =
    record {
      within = omega arith;
      room = h;
      long = length-replicate size z;
      rest = simp sub-zero;
      same = simp sub-zero (sym (more_none (numbered item 0 n at)));
    }

module _ {A : Type 0} (size : ℕ) (z : A) (item : ℕ → ℕ → Outcome A) (n at i p : ℕ) (out : List A) where
  -- one was read: it goes in at i
  pub filling_more : (v : A) (q : ℕ) → Filling size z item n at i p out → i < n → item i p ≡ good v q
      → Filling size z item n at (i + 1) q (set out i v)
  unfolding numbered
  filling_more v q f h e =
      let below : i < length out = omega arith in
      let here : i < i + 1 = omega arith in
      let t : take (i + 1) (set out i v) ≡ take i out ++ (v ∷ []) = simp (add-one i, take-suc-set out i v below) in
      record {
        within = omega arith;
        room = f.room;
        long = length-set out i v ∙ f.long;
        rest =
            drop-set-lt (i + 1) out i v here ∙ sym (drop-drop 1 i out) ∙ ap (drop 1) f.rest
            ∙ ap (λ k. drop 1 (replicate k z)) (left_suc size i (omega arith));
        same = f.same ∙ simp (left_suc n i h, e, more_more, t);
      }

  -- one was refused: so are the n
  pub filling_bad : (m : Reason) (q : ℕ) → Filling size z item n at i p out → i < n → item i p ≡ bad m q → numbered item 0 n at ≡ bad m q
  unfolding numbered
  filling_bad m q f h e = f.same ∙ simp (left_suc n i h, e)

  -- all are read: the array is what was read, and the rest z
  pub filling_good : Filling size z item n at i p out → n ≤ i → numbered item 0 n at ≡ good (take n out) p
  unfolding numbered
  filling_good f h =
      let e : i ≡ n = omega arith in
      f.same ∙ simp (e, sub_self, append-nil)

  pub filling_length : Filling size z item n at i p out → n ≤ i → length (take n out) ≡ n
  filling_length f h = length-take-le n out (omega arith)

  pub filling_array : Filling size z item n at i p out → n ≤ i → padded size z (take n out) ≡ out
  unfolding padded
  filling_array f h =
      let e : i ≡ n = omega arith in
      let r : drop n out ≡ replicate (size - n) z = rw e at f.rest in
      sym (sym (take-append-drop n out) ∙ simp (filling_length f h, r))
