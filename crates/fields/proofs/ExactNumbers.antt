-- Numbers, counts, the mark and the version of a paper are read exactly as they are written.
use mathlib.Core.Path.{◌≡◌, refl, sym, ap, ◌∙◌}
use mathlib.Core.Bool.{Bool, true}
use mathlib.Core.List.{List, [], ◌∷◌, ◌++◌, append-nil}
use Prim.Native.Nat.{ℕ, ◌+◌, ◌^◌, ◌≤◌, ◌<◌}
use native.Mathlib.Omega.{arith}
use lib.ListN.{length, get_or}
use lib.Dec.{leb, eqb}
use borrow.Author.Tests.{ltb-true, leb-true, eqb-true, lt-ltb, le-leb, eq-eqb}
use Rattle.ground.specs.Lists.{Every, each}
use Rattle.ground.specs.Bytes.{Stands, bytes_of, little_end}
use Rattle.ground.specs.Outcome.{Outcome, next, many}
use Rattle.ground.specs.Outcome.Outcome.{good}
use Rattle.ground.proofs.ByteLaws.{bytes_length, read_written, written_read, stands_left, stands_right, stands_both, stands_one, one_stands}
use Rattle.ground.proofs.TestLaws.{and_left, and_right, and_both}
use Rattle.ground.proofs.OutcomeLaws.{pick_good}
use Rattle.ground.specs.declared.refusals.Reason.TheVariants.{EndsInside, BeyondLimit, WrongMark, WrongVersion}
use Rattle.fields.specs.Numbers.{number_at, number_that, between, number_in, under, number_below, marked, mark_at, version_at, head_of}
use Rattle.fields.specs.Exact.{Exact, Spans}
use Rattle.fields.proofs.NumberLaws.{at_good, between_true, between_in}
use Rattle.fields.proofs.ExactReading.{chained, tested, restated, numbered_exact}

-- ---- numbers

module _ (w : ℕ) (s : List ℕ) (at : ℕ) where
  pub number_exact : Exact s at (number_at w s at) (bytes_of w) (λ v. v < 256 ^ w)
  unfolding number_at
  number_exact =
      record {
        sound = λ v p all e.
            let (end, inside, same) = at_good w s at v p e in
            let (small, stands) = written_read w s at all (omega arith) in
            rw same (small, (end ∙ ap (λ (n : ℕ). at + n) (sym (bytes_length w (little_end w s at))), stands));
        complete = λ v p small spans inside.
            let end : p ≡ at + w = spans.0 ∙ ap (λ (n : ℕ). at + n) (bytes_length w v) in
            let fits : leb (at + w) (length s) ≡ true = le-leb (at + w) (length s) (omega arith) in
            let same : little_end w s at ≡ v = read_written w v s at small spans.1 in
            rw (fits, same, end);
      }

  pub that_exact : (fits : ℕ → Bool) → Exact s at (number_that fits w s at) (bytes_of w) (λ v. (v < 256 ^ w) × (fits v ≡ true))
  unfolding number_that
  that_exact fits =
      restated s at (λ v _ _. sym (append-nil (bytes_of w v))) (λ v p h. (h.0, h.1.0)) (λ v p h. (h.0, (h.1, refl)))
      (chained s at (λ v. v) number_exact (λ v p _. tested s p (fits v) v BeyondLimit at) (λ a c q _ h. h.1))

  pub in_exact : (low high : ℕ) → high < 256 ^ w → Exact s at (number_in w low high s at) (bytes_of w) (λ v. (low ≤ v) × (v ≤ high))
  in_exact low high small =
      restated s at (λ _ _ _. refl) (λ v p h. between_true low high v h.1) (λ v p h. (omega arith, between_in low high v h.0 h.1))
      (that_exact (between low high))

  pub below_exact : (limit : ℕ) → limit ≤ 256 ^ w → Exact s at (number_below w limit s at) (bytes_of w) (λ v. v < limit)
  below_exact limit small =
      restated s at (λ _ _ _. refl) (λ v p h. ltb-true v limit h.1) (λ v p h. (omega arith, lt-ltb v limit h)) (that_exact (under limit))

-- a count, and as many of a kind
pub counted_exact : {A : Type 0} (low high : ℕ) → high < 256 → (s : List ℕ) (item : ℕ → Outcome A) (bytes : A → List ℕ) (Fine : A → Type 0)
    → ((at : ℕ) → Exact s at (item at) bytes Fine) → (at : ℕ)
    → Exact s at (next (number_in 1 low high s at) (λ n p. many item n p)) (λ vs. bytes_of 1 (length vs) ++ each bytes vs)
    (λ vs. ((low ≤ length vs) × (length vs ≤ high)) × Every Fine vs)
counted_exact low high small s item bytes Fine exact at =
    restated s at (λ _ _ _. refl) (λ vs p h. (h.0, h.1.0)) (λ vs p h. (h.0, (h.1, refl)))
    (chained s at length (in_exact 1 s at low high small) (λ n p _. numbered_exact s (λ _. item) bytes Fine (λ _. exact) 0 n p)
    (λ n vs q _ h. h.1))

-- ---- the mark and the version

marked_stands : (letters s : List ℕ) (at : ℕ) → at + length letters ≤ length s → marked letters s at ≡ true → Stands letters s at
unfolding marked
marked_stands [] s at inside e = refl
marked_stands (m ∷ letters) s at inside e =
    let more : marked letters s (at + 1) ≡ true = and_right (eqb (get_or s at 0) m) (marked letters s (at + 1)) e in
    let here : get_or s at 0 ≡ m = eqb-true (get_or s at 0) m (and_left (eqb (get_or s at 0) m) (marked letters s (at + 1)) e) in
    let first : Stands (m ∷ []) s at = rw here at (one_stands s at (omega arith)) in
    stands_both (m ∷ []) letters s at first (marked_stands letters s (at + 1) (omega arith) more)

stands_marked : (letters s : List ℕ) (at : ℕ) → Stands letters s at → marked letters s at ≡ true
unfolding marked
stands_marked [] s at h = refl
stands_marked (m ∷ letters) s at h =
    and_both (eq-eqb (get_or s at 0) m (stands_one m s at (stands_left (m ∷ []) letters s at h)))
    (stands_marked letters s (at + 1) (stands_right (m ∷ []) letters s at h))

pub mark_exact : (letters s : List ℕ) (at : ℕ) → Exact s at (mark_at letters s at) (λ l. l) (λ l. l ≡ letters)
unfolding mark_at
mark_exact letters s at =
    record {
      sound = λ l p all e.
          let (fits, is) = pick_good (leb (at + length letters) (length s)) _ EndsInside at l p e in
          let (stand, are) = pick_good (marked letters s at) (good letters (at + length letters)) WrongMark at l p is in
          let same : l ≡ letters = cc in
          let end : p ≡ at + length letters = cc in
          (same, rw same (omega (arith, end), marked_stands letters s at (leb-true (at + length letters) (length s) fits) stand));
      complete = λ l p same spans inside.
          let there : Spans letters s at p = rw same at spans in
          let fits : leb (at + length letters) (length s) ≡ true = le-leb (at + length letters) (length s) (omega (arith, there.0)) in
          let end : at + length letters ≡ p = omega (arith, there.0) in
          rw (fits, stands_marked letters s at there.1, end, same);
    }

pub version_exact : (newest : ℕ) → newest < 65536 → (s : List ℕ) (at : ℕ)
    → Exact s at (version_at newest s at) (bytes_of 2) (λ v. (1 ≤ v) × (v ≤ newest))
unfolding version_at
version_exact newest small s at =
    restated s at (λ v _ _. sym (append-nil (bytes_of 2 v))) (λ v p h. between_true 1 newest v h.1.0)
    (λ v p h. (omega arith, (between_in 1 newest v h.0 h.1, refl)))
    (chained s at (λ v. v) (number_exact 2 s at) (λ v p _. tested s p (between 1 newest v) v WrongVersion at) (λ a c q _ h. h.1))

pub head_exact : (letters : List ℕ) (newest : ℕ) → newest < 65536 → (s : List ℕ)
    → Exact s 0 (head_of letters newest s) (λ v. letters ++ bytes_of 2 v) (λ v. (1 ≤ v) × (v ≤ newest))
unfolding head_of
head_exact letters newest small s =
    restated s 0 (λ _ _ _. refl) (λ v p h. h.1) (λ v p h. (refl, h))
    (chained s 0 (λ _. letters) (mark_exact letters s 0) (λ _ p _. version_exact newest small s p) (λ a c q same _. sym same))
