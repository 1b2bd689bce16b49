-- What a reading or a call gives: a value with the position past it, or a refusal's reason and position.
-- Readings are chained by `next`, and several of one kind are read by `many`.
use Rattle.std.specs.Prelude.{Result, Ok, Err, ℕ, zero, suc, ◌+◌, List, [], ◌∷◌, ◌++◌}
use Rattle.ground.specs.declared.refusals.Reason.{Reason}
use Rattle.ground.specs.declared.refusals.Refusal.{Refusal}
use Rattle.ground.specs.Refusals.{refusal}

pub data Outcome (A : Type 0) : Type 0 where
  good : A → ℕ → Outcome A
  bad : Reason → ℕ → Outcome A

-- what comes after: by the value and the position past it, or the refusal as it is
abbrev pub next : {A B : Type 0} → Outcome A → (A → ℕ → Outcome B) → Outcome B
next (good v p) k = k v p
next (bad n p) k = bad n p

-- what was read before, in front of what is read here
abbrev pub and_more : {A : Type 0} → List A → Outcome (List A) → Outcome (List A)
and_more done (good vs p) = good (done ++ vs) p
and_more done (bad n p) = bad n p

-- n of a kind, one after the other, numbered from i on, from the position at on
unfoldable pub numbered : {A : Type 0} → (ℕ → ℕ → Outcome A) → ℕ → ℕ → ℕ → Outcome (List A)
numbered item i zero at = good [] at
numbered item i (suc n) at = next (item i at) (λ v p. and_more (v ∷ []) (numbered item (i + 1) n p))

-- n of a kind whose number plays no part
abbrev pub many : {A : Type 0} → (ℕ → Outcome A) → ℕ → ℕ → Outcome (List A)
many item = numbered (λ _. item) 0

-- what a reading answers: the value with the position past it, or the refusal
unfoldable pub read_of : {A : Type 0} → Outcome A → Result (A × ℕ) Refusal
read_of (good v p) = Ok (v, p)
read_of (bad n p) = Err (refusal n p)

-- what a call answers: the value alone, or the refusal
unfoldable pub taken_of : {A : Type 0} → Outcome A → Result A Refusal
taken_of (good v p) = Ok v
taken_of (bad n p) = Err (refusal n p)

-- or that it was taken
abbrev pub Verdict : Type 0
Verdict = Result (Unit {0}) Refusal

unfoldable pub verdict_of : {A : Type 0} → Outcome A → Verdict
verdict_of (good v p) = Ok (tt {0})
verdict_of (bad n p) = Err (refusal n p)

-- the position past it; beside a refusal stands 0
unfoldable pub next_of : {A : Type 0} → Outcome A → ℕ
next_of (good v p) = p
next_of (bad n p) = 0

-- what is made of the value where it is good; else what is given beside it: what stood there before, or what stands beside a refusal
unfoldable pub leaves : {A B : Type 0} → (A → B) → B → Outcome A → B
leaves made before (good v p) = made v
leaves made before (bad n p) = before

-- the value itself; beside a refusal stands z
abbrev pub value_of : {A : Type 0} → A → Outcome A → A
value_of z o = leaves (λ v. v) z o
