-- The laws of lists that are read into an array: one more, one refused, and the end; and of the count in front.
use mathlib.Core.Path.{◌≡◌, refl, ap, sym, ◌∙◌}
use Prim.Native.Nat.{ℕ, ◌+◌, ◌≤◌, ◌<◌, min}
use native.Mathlib.Omega.{arith}
use mathlib.Core.List.{List}
use mathlib.Core.Logic.{◌⊎◌, inl, inr}
use lib.ListN.{length, set}
use Rattle.std.specs.Prelude.{Result, Ok, Err}
use Rattle.ground.specs.Lists.{padded}
use Rattle.ground.specs.Outcome.{Outcome, next, many, read_of}
use Rattle.ground.specs.Outcome.Outcome.{good, bad}
use Rattle.ground.specs.declared.refusals.Refusal.{Refusal}
use Rattle.ground.proofs.OutcomeLaws.{good_bad, read_good, read_bad, passes_on, goes_on, next_good, next_bad, numbered_length}
use Rattle.ground.proofs.FillingLaws.{Filling, filling_more, filling_bad, filling_good, filling_array}
use Rattle.fields.specs.Numbers.{number_in}
use Rattle.fields.specs.Lists.{arrayed, counted}

module _ {A : Type 0} (size : ℕ) (z : A) (n at : ℕ) (item : ℕ → Outcome A) (i p : ℕ) (out : List A)
    (f : Filling size z (λ _. item) n at i p out) where
  module _ (h : i < n) (r : Result (A × ℕ) Refusal) (e : r ≡ read_of (item p)) where
    pub many_more : (v : A) (q : ℕ) → r ≡ Ok (v, q) → Filling size z (λ _. item) n at (i + 1) q (set out i v)
    many_more v q g = filling_more size z (λ _. item) n at i p out v q f h (read_good (item p) r v q e g)

    pub many_bad : (x : Refusal) → r ≡ Err x → Err x ≡ read_of (arrayed size z (many item n at))
    unfolding read_of
    many_bad x g = sym (rw (filling_bad size z (λ _. item) n at i p out x.reason x.position f h (read_bad (item p) r x e g)) refl)

  pub many_done : n ≤ i → Ok (out, p) ≡ read_of (arrayed size z (many item n at))
  unfolding read_of
  many_done h =
      simp (filling_good size z (λ _. item) n at i p out f h)
      (ap (λ (l : List A). Ok (l, p)) (sym (filling_array size z (λ _. item) n at i p out f h)))

-- as many as there is room for are all
pub all_fit : {A : Type 0} (size : ℕ) (z : A) (n at : ℕ) (item : ℕ → Outcome A) (r : Result (List A × ℕ) Refusal) → n ≤ size
    → r ≡ read_of (arrayed size z (many item (min n size) at)) → r ≡ read_of (arrayed size z (many item n at))
all_fit size z n at item r h e =
    let all : min n size ≡ n = omega arith in
    e ∙ ap (λ (k : ℕ). read_of (arrayed size z (many item k at))) all

-- ---- a count in front

module _ {A : Type 0} (low size : ℕ) (z : A) (item : ℕ → Outcome A) (s : List ℕ) (at : ℕ) (r : Result (ℕ × ℕ) Refusal)
    (e : r ≡ read_of (number_in 1 low size s at)) where
  pub list_no_count : (x : Refusal) → r ≡ Err x → Err x ≡ read_of (counted low size z item s at)
  unfolding counted
  list_no_count x g = passes_on (number_in 1 low size s at) _ r e x g

  module _ (n p : ℕ) (g : r ≡ Ok (n, p)) (r' : Result (List A × ℕ) Refusal) (e' : r' ≡ read_of (arrayed size z (many item n p))) where
    abbrev with_count : List A → ℕ → Outcome (ℕ × List A)
    with_count l q = good (n, l) q

    array_by : (o : Outcome (List A)) → next (arrayed size z o) with_count ≡ next {B = ℕ × List A} o (λ vs q. good (n, padded size z vs) q)
    array_by (good vs q) = refl
    array_by (bad m q) = refl

    pub list_no_element : (x : Refusal) → r' ≡ Err x → Err x ≡ read_of (counted low size z item s at)
    unfolding counted
    list_no_element x g' =
        goes_on (number_in 1 low size s at) _ r e n p _ g
        (passes_on (arrayed size z (many item n p)) with_count r' e' x g' ∙ ap read_of (array_by (many item n p)))

    pub list_is : (l : List A) (q : ℕ) → r' ≡ Ok (l, q) → Ok ((n, l), q) ≡ read_of (counted low size z item s at)
    unfolding counted read_of
    list_is l q g' =
        goes_on (number_in 1 low size s at) _ r e n p _ g
        (goes_on (arrayed size z (many item n p)) with_count r' e' l q _ g' refl ∙ ap read_of (array_by (many item n p)))

-- ---- what a list with its count says of the readings that it is made of

module _ {A B : Type 0} (low size : ℕ) (z : A) (item : ℕ → Outcome A) (s : List ℕ) (at : ℕ) (k : ℕ → List A → ℕ → Outcome B)
    (r : Result ((ℕ × List A) × ℕ) Refusal) (e : r ≡ read_of (counted low size z item s at)) where
  abbrev read : Outcome B
  read = next (number_in 1 low size s at) (λ n p. next (many item n p) (k n))

  abbrev list : ℕ → List A → ℕ → Outcome (ℕ × List A)
  list n vs q = good (n, padded size z vs) q

  -- refused: so is all that begins with them
  pub list_refused : (x : Refusal) → r ≡ Err x → Err x ≡ read_of read
  unfolding counted read_of
  list_refused x g = go (next_bad (number_in 1 low size s at) _ x.reason x.position (read_bad (counted low size z item s at) r x e g))
    where
      inner : (n p : ℕ) → number_in 1 low size s at ≡ good n p
          → (many item n p ≡ bad x.reason x.position)
          ⊎ ((vs : List A) × (q : ℕ) × (many item n p ≡ good vs q) × (list n vs q ≡ bad x.reason x.position)) → Err x ≡ read_of read
      inner n p h (inl b) = sym (rw (h, b) refl)
      inner n p h (inr (vs, q, a, b)) = absurd (good_bad (n, padded size z vs) q x.reason x.position b)

      go : (number_in 1 low size s at ≡ bad x.reason x.position)
          ⊎ ((n : ℕ) × (p : ℕ) × (number_in 1 low size s at ≡ good n p) × (next (many item n p) (list n) ≡ bad x.reason x.position))
          → Err x ≡ read_of read
      go (inl b) = sym (rw b refl)
      go (inr (n, p, a, b)) = inner n p a (next_bad (many item n p) (list n) x.reason x.position b)

  read_by : (m n p u q : ℕ) (vs : List A) → number_in 1 low size s at ≡ good m p → many item m p ≡ good vs u → m ≡ n → u ≡ q → read ≡ k n vs q
  read_by m n p u q vs a c count end = rw (a, c, count, end) refl

  -- read: the count is of the list, which stands in the array
  pub list_taken : (n : ℕ) (l : List A) (q : ℕ) → r ≡ Ok ((n, l), q)
      → (vs : List A) × (n ≡ length vs) × (l ≡ padded size z vs) × (read ≡ k n vs q)
  unfolding counted
  list_taken n l q g =
      let (m, p, a, b) = next_good (number_in 1 low size s at) _ (n, l) q (read_good (counted low size z item s at) r (n, l) q e g) in
      let (vs, u, c, d) = next_good (many item m p) _ (n, l) q b in
      let pair : ◌≡◌ {A = (ℕ × List A) × ℕ} ((m, padded size z vs), u) ((n, l), q) = cc in
      let count : m ≡ n = ap (λ (x : (ℕ × List A) × ℕ). x.0.0) pair in
      let list : padded size z vs ≡ l = ap (λ (x : (ℕ × List A) × ℕ). x.0.1) pair in
      let end : u ≡ q = ap (λ (x : (ℕ × List A) × ℕ). x.1) pair in
      (vs, sym count ∙ sym (numbered_length (λ _. item) 0 m p vs u c), sym list, read_by m n p u q vs a c count end)
