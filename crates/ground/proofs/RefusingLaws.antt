-- Laws of the refusals of a call: the first test that fails gives the number and the position, and where none fails it is
-- what comes after. And what tests that were judged alone say of a call that begins with them.
use mathlib.Core.Path.{◌≡◌, refl, sym, ap, ◌∙◌}
use mathlib.Core.Bool.{Bool, true, false, ◌||◌, false≢true}
use mathlib.Core.List.Memᴰ
use mathlib.Core.List.{List, [], ◌∷◌, ◌++◌, map, Memᴰ}
use mathlib.Core.Logic.{◌⊎◌, inl, inr, ◌↔◌}
use Prim.Native.Nat.{ℕ}
use Rattle.ground.specs.Tests.{pick}
use Rattle.ground.specs.Lists.{any, Every}
use Rattle.std.specs.Prelude.{Ok, Err}
use Rattle.ground.specs.Refusals.{refusal}
use Rattle.ground.specs.Outcome.{Outcome, Verdict, verdict_of}
use Rattle.ground.specs.Outcome.Outcome.{good, bad}
use Rattle.ground.specs.Refusing.{Test, judged, judgement}
use Rattle.ground.proofs.ListLaws.{map_mem}
use Rattle.ground.proofs.OutcomeLaws.{never, good_bad, same_bad}
use Rattle.ground.proofs.TestLaws.{or_none}
use Rattle.ground.specs.declared.refusals.Reason.{Reason}

-- some test fails
abbrev pub some_fail : List Test → Bool
some_fail ts = any (λ (t : Test). t.fails) ts

-- t is the first that fails
pub record FirstFailing (ts : List Test) (t : Test) : Type 0 where
  pub before : List Test
  pub after : List Test
  pub whole : ts ≡ before ++ (t ∷ after)
  pub passed : some_fail before ≡ false
  pub failed : t.fails ≡ true

module _ {A : Type 0} where
  pub judged_none : (ts : List Test) (o : Outcome A) → some_fail ts ≡ false → judged ts o ≡ o
  judged_none [] o h = refl
  judged_none (t ∷ ts) o h = go t.fails h (judged_none ts o)
    where
      go : (b : Bool) → (b || some_fail ts) ≡ false → (some_fail ts ≡ false → judged ts o ≡ o) → pick b (bad t.reason t.position) (judged ts o) ≡ o
      go true h ih = absurd (false≢true (sym h))
      go false h ih = ih h

  -- tests one after the other
  pub judged_append : (ts us : List Test) (o : Outcome A) → judged (ts ++ us) o ≡ judged ts (judged us o)
  judged_append [] us o = refl
  judged_append (t ∷ ts) us o = rw (judged_append ts us o)

  -- a test that cannot fail may stand anywhere
  pub judged_insert : (ts us : List Test) (t : Test) (o : Outcome A) → t.fails ≡ false → judged (ts ++ (t ∷ us)) o ≡ judged (ts ++ us) o
  judged_insert ts us t o h = judged_append ts (t ∷ us) o ∙ rw h (sym (judged_append ts us o))

  -- good exactly where no test fails and what comes after is good
  pub judged_good : (ts : List Test) (o : Outcome A) (v : A) (p : ℕ)
      → (judged ts o ≡ good v p) ↔ ((some_fail ts ≡ false) × (o ≡ good v p))
  judged_good ts o v p = (from ts, λ h. judged_none ts o h.0 ∙ h.1)
    where
      from : (ts : List Test) → judged ts o ≡ good v p → (some_fail ts ≡ false) × (o ≡ good v p)
      from [] h = (refl, h)
      from (t ∷ ts) h = go t.fails h (from ts)
        where
          go : (b : Bool) → pick b (bad t.reason t.position) (judged ts o) ≡ good v p
              → (judged ts o ≡ good v p → (some_fail ts ≡ false) × (o ≡ good v p)) → ((b || some_fail ts) ≡ false) × (o ≡ good v p)
          go true h ih = absurd (good_bad v p t.reason t.position (sym h))
          go false h ih = ih h

  -- refused: by the first test that fails, or where none does by what comes after
  pub judged_bad : (ts : List Test) (o : Outcome A) (n : Reason) (p : ℕ) → judged ts o ≡ bad n p
      → ((t : Test) × FirstFailing ts t × (t.reason ≡ n) × (t.position ≡ p)) ⊎ ((some_fail ts ≡ false) × (o ≡ bad n p))
  judged_bad [] o n p h = inr (refl, h)
  judged_bad (t ∷ ts) o n p h = go t.fails refl h (judged_bad ts o n p)
    where
      Told : List Test → Type 0
      Told ts = ((t : Test) × FirstFailing ts t × (t.reason ≡ n) × (t.position ≡ p)) ⊎ ((some_fail ts ≡ false) × (o ≡ bad n p))

      later : t.fails ≡ false → Told ts → Told (t ∷ ts)
      later b (inl (u, f, m, q)) =
          inl (u, record { before = t ∷ f.before; after = f.after; whole = ap (λ (l : List Test). t ∷ l) f.whole; passed = rw b f.passed; failed = f.failed }, m, q)
      later b (inr (none, k)) = inr (rw b none, k)

      go : (b : Bool) → t.fails ≡ b → pick b (bad t.reason t.position) (judged ts o) ≡ bad n p → (judged ts o ≡ bad n p → Told ts)
          → Told (t ∷ ts)
      go true b h ih = inl (t, record { before = []; after = ts; whole = refl; passed = refl; failed = b }, cc, cc)
      go false b h ih = later b (ih h)

  -- so its number is one of the tests', or that of what comes after
  pub judged_number : (ts : List Test) (o : Outcome A) (n : Reason) (p : ℕ) → judged ts o ≡ bad n p
      → Memᴰ n (map (λ (t : Test). t.reason) ts) ⊎ (o ≡ bad n p)
  judged_number ts o n p h = go (judged_bad ts o n p h)
    where
      go : ((t : Test) × FirstFailing ts t × (t.reason ≡ n) × (t.position ≡ p)) ⊎ ((some_fail ts ≡ false) × (o ≡ bad n p))
          → Memᴰ n (map (λ (t : Test). t.reason) ts) ⊎ (o ≡ bad n p)
      go (inl (t, f, m, q)) =
          inl (rw (← m, f.whole) (map_mem (λ (u : Test). u.reason) (Memᴰ.append_right f.before (Memᴰ.head refl))))
      go (inr (none, k)) = inr k

-- ---- tests judged alone

refused_by_lem : {A : Type 0} (o : Outcome A) (ts : List Test) (m : Reason) (q : ℕ) → Err (refusal m q) ≡ judgement ts → judged ts o ≡ bad m q
unfolding judgement verdict_of
refused_by_lem o [] m q h = let z : ◌≡◌ {A = ℕ} 0 1 = cc in absurd (never z)
refused_by_lem {A} o (t ∷ ts) m q h = go t.fails h (refused_by_lem o ts m q)
  where
    go : (b : Bool) → Err (refusal m q) ≡ verdict_of (pick b (bad t.reason t.position) (judged ts (good (tt {0}) 0)))
        → (Err (refusal m q) ≡ verdict_of (judged ts (good (tt {0}) 0)) → judged ts o ≡ bad m q)
        → pick b (bad t.reason t.position) (judged ts o) ≡ bad m q
    go true h ih = same_bad t.reason m t.position q cc
    go false h ih = ih h

taken_by : (ts : List Test) → Ok tt ≡ judgement ts → some_fail ts ≡ false
unfolding judgement verdict_of
taken_by [] h = refl
taken_by (t ∷ ts) h = go t.fails h (taken_by ts)
  where
    go : (b : Bool) → Ok tt ≡ verdict_of (pick b (bad t.reason t.position) (judged ts (good (tt {0}) 0)))
        → (Ok tt ≡ verdict_of (judged ts (good (tt {0}) 0)) → some_fail ts ≡ false) → (b || some_fail ts) ≡ false
    go true h ih = let z : ◌≡◌ {A = ℕ} 0 1 = cc in absurd (never z)
    go false h ih = ih h

module _ (ts : List Test) (v : Verdict) (g : v ≡ judgement ts) where
  pub judge_refused : {A : Type 0} (o : Outcome A) (m : Reason) (q : ℕ) → v ≡ Err (refusal m q) → judged ts o ≡ bad m q
  judge_refused o m q h = refused_by_lem o ts m q (sym h ∙ g)

  pub judge_passed : v ≡ Ok tt → some_fail ts ≡ false
  judge_passed h = taken_by ts (sym h ∙ g)

  pub judge_taken : {A : Type 0} (o : Outcome A) → v ≡ Ok tt → judged ts o ≡ o
  judge_taken o h = judged_none ts o (judge_passed h)

-- where no test fails, each passes
pub each_passes : (ts : List Test) → some_fail ts ≡ false → Every (λ (t : Test). t.fails ≡ false) ts
each_passes [] h = tt
each_passes (t ∷ ts) h = let (first, rest) = or_none t.fails (some_fail ts) h in (first, each_passes ts rest)

-- where every test has position 0, a refusal has the number of a test and position 0, or is that of what comes after
pub refusal_or : {A : Type 0} (ts : List Test) (o : Outcome A) (n : Reason) (q : ℕ) → Every (λ (t : Test). t.position ≡ 0) ts → judged ts o ≡ bad n q
    → (Memᴰ n (map (λ (t : Test). t.reason) ts) × (q ≡ 0)) ⊎ (o ≡ bad n q)
refusal_or [] o n q z h = inr h
refusal_or {A} (t ∷ ts) o n q z h = go t.fails h (refusal_or ts o n q z.1)
  where
    Told : List Test → Type 0
    Told ts = (Memᴰ n (map (λ (t : Test). t.reason) ts) × (q ≡ 0)) ⊎ (o ≡ bad n q)

    later : Told ts → Told (t ∷ ts)
    later (inl (m, e)) = inl (Memᴰ.tail m, e)
    later (inr e) = inr e

    go : (b : Bool) → pick b (bad t.reason t.position) (judged ts o) ≡ bad n q → (judged ts o ≡ bad n q → Told ts) → Told (t ∷ ts)
    go true h ih =
        let same : n ≡ t.reason = cc in
        let place : q ≡ t.position = cc in
        inl (Memᴰ.head same, place ∙ z.0)
    go false h ih = later (ih h)

-- so where the effect is good it has the number of a test
pub refusal_listed : {A : Type 0} (ts : List Test) (v : A) (p : ℕ) (n : Reason) (q : ℕ) → Every (λ (t : Test). t.position ≡ 0) ts
    → judged ts (good v p) ≡ bad n q → Memᴰ n (map (λ (t : Test). t.reason) ts) × (q ≡ 0)
refusal_listed ts v p n q z h = go (refusal_or ts (good v p) n q z h)
  where
    go : (Memᴰ n (map (λ (t : Test). t.reason) ts) × (q ≡ 0)) ⊎ (good v p ≡ bad n q) → Memᴰ n (map (λ (t : Test). t.reason) ts) × (q ≡ 0)
    go (inl told) = told
    go (inr e) = absurd (good_bad v p n q e)

-- one test after the other
pub judge_fail : (t : Test) (ts : List Test) → t.fails ≡ true → Err (refusal t.reason t.position) ≡ judgement (t ∷ ts)
unfolding judgement verdict_of
judge_fail t ts h = rw h

pub judge_pass : (t : Test) (ts : List Test) → t.fails ≡ false → judgement (t ∷ ts) ≡ judgement ts
unfolding judgement
judge_pass t ts h = rw h

pub judge_none : Ok tt ≡ judgement []
unfolding judgement verdict_of
judge_none = refl
