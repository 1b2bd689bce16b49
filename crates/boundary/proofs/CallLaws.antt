-- What all calls share: what is said of a call's outcome is said of what it comes to, which is the refusal of what comes first, or
-- what comes after.
use mathlib.Core.Path.{◌≡◌, refl, sym}
use mathlib.Core.List.{List}
use Prim.Native.Nat.{ℕ}
use Rattle.std.specs.Prelude.{Result, Ok, Err}
use Rattle.ground.specs.Outcome.{Outcome, next, taken_of, verdict_of, leaves}
use Rattle.ground.specs.Outcome.Outcome.{good, bad}
use Rattle.ground.specs.declared.refusals.Reason.{Reason}
use Rattle.ground.specs.declared.refusals.Refusal.{Refusal}
use Rattle.ground.proofs.OutcomeLaws.{never, value_good, value_bad, leaves_refused}
use Rattle.fields.proofs.PutLaws.{Writes, writes_bad}

module _ {A B : Type 0} (o : Outcome A) (call : A → Outcome B) (r : Result A Refusal) (e : r ≡ taken_of o) (Said : Outcome B → Type 0) where
  pub refused_says : (x : Refusal) → r ≡ Err x → Said (bad x.reason x.position) → Said (next o (λ v _. call v))
  refused_says x g h = rw (value_bad o r x e g) h

  pub taken_says : (v : A) → r ≡ Ok v → Said (call v) → Said (next o (λ v _. call v))
  taken_says v g h = let (p, f) = value_good o r v e g in rw f h

-- ---- a call that writes

module _ {A : Type 0} (o : Outcome A) (call : A → Outcome (List ℕ)) (out : List ℕ) (r : Result A Refusal) (e : r ≡ taken_of o) where
  pub writes_ends : (x : Refusal) → r ≡ Err x → Writes 0 out (next o (λ v _. call v)) (Err x) out
  writes_ends x g = refused_says o call r e (λ o. Writes 0 out o (Err x) out) x g (writes_bad 0 out (bad x.reason x.position) x.reason x.position refl)

  pub writes_goes : (v : A) → r ≡ Ok v → (z : Result ℕ Refusal) (after : List ℕ) → Writes 0 out (call v) z after
      → Writes 0 out (next o (λ v _. call v)) z after
  writes_goes v g z after l = taken_says o call r e (λ o. Writes 0 out o z after) v g l

-- ---- what is left

-- a refusal leaves what came in
pub leaves_same : {B C : Type 0} (made : B → C) (before : C) (o : Outcome B) (m : Reason) (u : ℕ) → o ≡ bad m u → before ≡ leaves made before o
leaves_same made before o m u found = sym (leaves_refused made before o m u found)

-- what is left of the end that a taken call gives is what the call leaves of it
pub leaves_taken : {A B C : Type 0} (f : B → C) (made : A → B) (x : B) (before : C) (o : Outcome A) → verdict_of o ≡ Ok (tt {0})
    → f (leaves made x o) ≡ leaves (λ (a : A). f (made a)) before o
unfolding leaves verdict_of
leaves_taken f made x before (good a u) w = refl
leaves_taken f made x before (bad m u) w = let z : ◌≡◌ {A = ℕ} 0 1 = cc in absurd (never z)
