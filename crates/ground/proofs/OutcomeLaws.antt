-- Laws of outcomes: what a good or a bad outcome says of the readings it is chained of, what an answer's verdict says of the
-- outcome that it shows, and what a call leaves.
use mathlib.Core.Path.{◌≡◌, refl, ap, sym, ◌∙◌}
use mathlib.Core.List.{List, [], ◌∷◌, ◌++◌, append_assoc}
use mathlib.Core.Logic.{◌⊎◌, inl, inr}
use mathlib.Core.Bool.{Bool, true, false}
use Prim.Native.Nat.{ℕ, zero, suc, ◌+◌}
use native.Mathlib.Omega.{arith}
use lib.ListN.{length}
use Rattle.ground.specs.Tests.{pick}
use Rattle.ground.specs.Outcome.{Outcome, next, and_more, numbered, read_of, taken_of, verdict_of, Verdict, next_of, leaves, value_of}
use Rattle.ground.specs.Outcome.Outcome.{good, bad}
use Rattle.std.specs.Prelude.{Result, Ok, Err}
use Rattle.std.specs.Result.{IsErrAnd}
use Rattle.std.proofs.lemmas.Result.{err_from_is_err_and}
use Rattle.ground.specs.Refusals.{refusal}
use Rattle.ground.specs.declared.refusals.Reason.{Reason}
use Rattle.ground.specs.declared.refusals.Refusal.{Refusal}

pub never : ◌≡◌ {A = ℕ} 0 1 → ⊥
never z = omega arith

-- no outcome is both good and bad
pub good_bad : {A : Type 0} (v : A) (p : ℕ) (m : Reason) (q : ℕ) → good v p ≡ bad m q → ⊥
good_bad v p m q e = let z : ◌≡◌ {A = ℕ} 0 1 = cc in never z

-- one refusal, one outcome
pub same_refusal : (m n : Reason) (q p : ℕ) → refusal m q ≡ refusal n p → (m ≡ n) × (q ≡ p)
same_refusal m n q p e = (ap (λ (r : Refusal). r.reason) e, ap (λ (r : Refusal). r.position) e)

pub same_bad : {A : Type 0} (m n : Reason) (q p : ℕ) → refusal m q ≡ refusal n p → ◌≡◌ {A = Outcome A} (bad m q) (bad n p)
same_bad m n q p e = let h = same_refusal m n q p e in rw (h.0, h.1) refl

pub same_good : {A : Type 0} (u v : A) (q p : ℕ) → ◌≡◌ {A = A × ℕ} (v, p) (u, q) → good u q ≡ good v p
same_good {A} u v q p e = sym (rw (ap (λ (x : A × ℕ). x.0) e, ap (λ (x : A × ℕ). x.1) e) refl)

pub taken_is : {A : Type 0} (z : A) (o : Outcome A) → verdict_of o ≡ Ok tt → o ≡ good (value_of z o) (next_of o)
unfolding verdict_of leaves next_of
taken_is z (good v p) e = refl
taken_is z (bad n p) e = let z : ◌≡◌ {A = ℕ} 0 1 = cc in absurd (never z)

pub refused_is : {A : Type 0} (o : Outcome A) (m : Reason) (q : ℕ) → verdict_of o ≡ Err (refusal m q) → o ≡ bad m q
unfolding verdict_of
refused_is (good v p) m q e = let z : ◌≡◌ {A = ℕ} 0 1 = cc in absurd (never z)
refused_is (bad n p) m q e = same_bad n m p q cc

-- ---- what an answer says of the outcome that it shows

module _ {A : Type 0} (o : Outcome A) where
  pub read_good : (r : Result (A × ℕ) Refusal) (v : A) (p : ℕ) → r ≡ read_of o → r ≡ Ok (v, p) → o ≡ good v p
  unfolding read_of
  read_good r v p e g = go o (sym e ∙ g)
    where
      go : (o : Outcome A) → read_of o ≡ Ok (v, p) → o ≡ good v p
      go (good u q) h = same_good u v q p cc
      go (bad n q) h = let z : ◌≡◌ {A = ℕ} 0 1 = cc in absurd (never z)

  pub read_bad : (r : Result (A × ℕ) Refusal) (x : Refusal) → r ≡ read_of o → r ≡ Err x → o ≡ bad x.reason x.position
  unfolding read_of
  read_bad r x e g = go o (sym e ∙ g)
    where
      go : (o : Outcome A) → read_of o ≡ Err x → o ≡ bad x.reason x.position
      go (good u q) h = let z : ◌≡◌ {A = ℕ} 0 1 = cc in absurd (never z)
      go (bad n q) h = same_bad n x.reason q x.position cc

  pub value_good : (r : Result A Refusal) (v : A) → r ≡ taken_of o → r ≡ Ok v → (p : ℕ) × (o ≡ good v p)
  unfolding taken_of
  value_good r v e g = go o (sym e ∙ g)
    where
      go : (o : Outcome A) → taken_of o ≡ Ok v → (p : ℕ) × (o ≡ good v p)
      go (good u q) h = (q, cc)
      go (bad n q) h = let z : ◌≡◌ {A = ℕ} 0 1 = cc in absurd (never z)

  pub value_bad : (r : Result A Refusal) (x : Refusal) → r ≡ taken_of o → r ≡ Err x → o ≡ bad x.reason x.position
  unfolding taken_of
  value_bad r x e g = go o (sym e ∙ g)
    where
      go : (o : Outcome A) → taken_of o ≡ Err x → o ≡ bad x.reason x.position
      go (good u q) h = let z : ◌≡◌ {A = ℕ} 0 1 = cc in absurd (never z)
      go (bad n q) h = same_bad n x.reason q x.position cc

  pub verdict_good : (r : Verdict) → r ≡ verdict_of o → r ≡ Ok tt → (v : A) × (p : ℕ) × (o ≡ good v p)
  unfolding verdict_of
  verdict_good r e g = go o (sym e ∙ g)
    where
      go : (o : Outcome A) → verdict_of o ≡ Ok tt → (v : A) × (p : ℕ) × (o ≡ good v p)
      go (good u q) h = (u, q, refl)
      go (bad n q) h = let z : ◌≡◌ {A = ℕ} 0 1 = cc in absurd (never z)

  pub verdict_bad : (r : Verdict) (x : Refusal) → r ≡ verdict_of o → r ≡ Err x → o ≡ bad x.reason x.position
  unfolding verdict_of
  verdict_bad r x e g = go o (sym e ∙ g)
    where
      go : (o : Outcome A) → verdict_of o ≡ Err x → o ≡ bad x.reason x.position
      go (good u q) h = let z : ◌≡◌ {A = ℕ} 0 1 = cc in absurd (never z)
      go (bad n q) h = same_bad n x.reason q x.position cc

-- a refusal goes through what comes after
module _ {A B : Type 0} (o : Outcome A) (k : A → ℕ → Outcome B) (r : Result (A × ℕ) Refusal) (e : r ≡ read_of o) where
  pub passes_on : (x : Refusal) → r ≡ Err x → Err x ≡ read_of (next o k)
  unfolding read_of
  passes_on x g = sym (rw (read_bad o r x e g) refl)

  pub goes_on : (v : A) (p : ℕ) (t : Result (B × ℕ) Refusal) → r ≡ Ok (v, p) → t ≡ read_of (k v p) → t ≡ read_of (next o k)
  goes_on v p t g h = h ∙ sym (rw (read_good o r v p e g) refl)

-- the same of a call that answers its value alone: where a reading within it is refused, or goes on
module _ {A B : Type 0} (o : Outcome A) (k : A → ℕ → Outcome B) (r : Result (A × ℕ) Refusal) (e : r ≡ read_of o) where
  pub read_ends : (x : Refusal) → r ≡ Err x → Err x ≡ taken_of (next o k)
  unfolding taken_of
  read_ends x g = sym (rw (read_bad o r x e g) refl)

  pub read_goes : (v : A) (p : ℕ) (t : Result B Refusal) → r ≡ Ok (v, p) → t ≡ taken_of (k v p) → t ≡ taken_of (next o k)
  read_goes v p t g h = h ∙ sym (rw (read_good o r v p e g) refl)

-- and where a call within it is, whose value goes on with some position
module _ {A B : Type 0} (o : Outcome A) (k : A → ℕ → Outcome B) (r : Result A Refusal) (e : r ≡ taken_of o) where
  pub call_ends : (x : Refusal) → r ≡ Err x → Err x ≡ taken_of (next o k)
  unfolding taken_of
  call_ends x g = sym (rw (value_bad o r x e g) refl)

  pub call_goes : (v : A) (t : Result B Refusal) → r ≡ Ok v → ((p : ℕ) → o ≡ good v p → t ≡ taken_of (k v p)) → t ≡ taken_of (next o k)
  call_goes v t g h = let (p, f) = value_good o r v e g in h p f ∙ sym (ap (λ (q : Outcome A). taken_of (next q k)) f)

-- a `?` that leaves answers the refusal that it met
pub exits : {A : Type 0} (t s : Result A Refusal) (x : Refusal) → IsErrAnd t (λ y. y ≡ x) → Err x ≡ s → t ≡ s
exits t s x h e = let p = err_from_is_err_and t h in p.1 ∙ rw p.2 e

-- ---- what a call leaves

pub leaves_good : {A B : Type 0} (made : A → B) (before : B) (a : A) (p : ℕ) → leaves made before (good a p) ≡ made a
unfolding leaves
leaves_good made before a p = refl

pub leaves_bad : {A B : Type 0} (made : A → B) (before : B) (n : Reason) (p : ℕ) → leaves made before (bad n p) ≡ before
unfolding leaves
leaves_bad made before n p = refl

-- a call that is refused leaves what stood there
pub leaves_refused : {A B : Type 0} (made : A → B) (before : B) (o : Outcome A) (n : Reason) (p : ℕ) → o ≡ bad n p → leaves made before o ≡ before
leaves_refused made before o n p e = ap (leaves made before) e ∙ leaves_bad made before n p

-- what an outcome is made into says the same
module _ {A C : Type 0} (f : A → C) (o : Outcome A) where
  abbrev turned : Outcome A → Outcome C
  turned o = next o (λ a p. good (f a) p)

  pub leaves_turned : {B : Type 0} (made : C → B) (before : B) → leaves made before (turned o) ≡ leaves (λ (a : A). made (f a)) before o
  unfolding leaves
  leaves_turned made before = go o
    where
      go : (o : Outcome A) → leaves made before (turned o) ≡ leaves (λ (a : A). made (f a)) before o
      go (good a p) = refl
      go (bad n p) = refl

  pub verdict_turned : verdict_of (turned o) ≡ verdict_of o
  unfolding verdict_of
  verdict_turned = go o
    where
      go : (o : Outcome A) → verdict_of (turned o) ≡ verdict_of o
      go (good a p) = refl
      go (bad n p) = refl

  -- so a refusal of it is its refusal
  pub turned_bad : (n : Reason) (p : ℕ) → turned o ≡ bad n p → o ≡ bad n p
  turned_bad n p h = go o h
    where
      go : (o : Outcome A) → turned o ≡ bad n p → o ≡ bad n p
      go (good a q) h = absurd (good_bad (f a) q n p h)
      go (bad m q) h = cc

-- ---- readings one after the other

-- good after another: so was the other
pub next_good : {A B : Type 0} (o : Outcome A) (k : A → ℕ → Outcome B) (b : B) (q : ℕ) → next o k ≡ good b q
    → (a : A) × (p : ℕ) × (o ≡ good a p) × (k a p ≡ good b q)
next_good (good a p) k b q e = (a, p, refl, e)
next_good (bad n p) k b q e = absurd (good_bad b q n p (sym e))

-- bad after another: the other was bad, or what came after it
pub next_bad : {A B : Type 0} (o : Outcome A) (k : A → ℕ → Outcome B) (m : Reason) (q : ℕ) → next o k ≡ bad m q
    → (o ≡ bad m q) ⊎ ((a : A) × (p : ℕ) × (o ≡ good a p) × (k a p ≡ bad m q))
next_bad (good a p) k m q e = inr (a, p, refl, e)
next_bad (bad n p) k m q e = inl cc

pub next_next : {A B C : Type 0} (o : Outcome A) (k : A → ℕ → Outcome B) (l : B → ℕ → Outcome C)
    → next (next o k) l ≡ next o (λ a p. next (k a p) l)
next_next (good a p) k l = refl
next_next (bad n p) k l = refl

-- good where a test decides between good and bad
pub pick_good : {A : Type 0} (b : Bool) (o : Outcome A) (m : Reason) (q : ℕ) (v : A) (p : ℕ) → pick b o (bad m q) ≡ good v p
    → (b ≡ true) × (o ≡ good v p)
pick_good true o m q v p e = (refl, e)
pick_good false o m q v p e = absurd (good_bad v p m q (sym e))

pub unless_good : {A : Type 0} (b : Bool) (m : Reason) (q : ℕ) (o : Outcome A) (v : A) (p : ℕ) → pick b (bad m q) o ≡ good v p
    → (b ≡ false) × (o ≡ good v p)
unless_good true m q o v p e = absurd (good_bad v p m q (sym e))
unless_good false m q o v p e = (refl, e)

module _ {A : Type 0} where
  pub more_none : (o : Outcome (List A)) → and_more [] o ≡ o
  more_none (good vs p) = refl
  more_none (bad n p) = refl

  pub more_more : (xs ys : List A) (o : Outcome (List A)) → and_more xs (and_more ys o) ≡ and_more (xs ++ ys) o
  more_more xs ys (good vs p) = ap (λ (l : List A). good l p) (sym (append_assoc xs ys vs))
  more_more xs ys (bad n p) = refl

  pub more_good : (xs : List A) (o : Outcome (List A)) (vs : List A) (p : ℕ) → and_more xs o ≡ good vs p
      → (ws : List A) × (o ≡ good ws p) × (vs ≡ xs ++ ws)
  more_good xs (good ws q) vs p e = (ws, cc, cc)
  more_good xs (bad m q) vs p e = absurd (good_bad vs p m q (sym e))

  -- as many are read as were asked for
  pub numbered_length : (item : ℕ → ℕ → Outcome A) (i n at : ℕ) (vs : List A) (p : ℕ) → numbered item i n at ≡ good vs p → length vs ≡ n
  unfolding numbered
  numbered_length item i zero at vs p e = let h : vs ≡ [] = cc in ap length h
  numbered_length item i (suc n) at vs p e =
      let (v, q, here, after) = next_good (item i at) _ vs p e in
      let (ws, rest, whole) = more_good (v ∷ []) (numbered item (i + 1) n q) vs p after in
      ap length whole ∙ ap suc (numbered_length item (i + 1) n q ws p rest)
