-- "Making, answering and writing start at the front of the lent buffer, return the length written and leave the rest." Refusal
-- 11: "lent buffer too short". "A refusal writes nothing anywhere and changes no end." This is said here once, for papers,
-- messages, values and answers.
use Rattle.std.specs.Prelude.{Result, Ok, Err, ℕ, ◌+◌, ◌-◌, ◌^◌, ◌≤◌, ◌≡◌, min, List, [], ◌∷◌, length, nat_lt}
use Rattle.std.proofs.lemmas.List.Edits.{sets}
use Rattle.ground.specs.Outcome.{Outcome, leaves}
use Rattle.ground.specs.Outcome.Outcome.{good, bad}
use Rattle.ground.specs.Refusing.{test, judged}
use Rattle.ground.specs.declared.refusals.Reason.TheVariants.{TooShort}
use Rattle.ground.specs.Refusals.{refusal}
use Rattle.ground.specs.declared.refusals.Refusal.{Refusal}

-- bytes or words with their length, or 11 where the room that is lent is shorter
unfoldable pub fitted : ℕ → List ℕ → Outcome (List ℕ)
fitted room words = judged (test (nat_lt room (length words)) TooShort 0 ∷ []) (good words (length words))

-- what a call that writes answers: the length written, or the refusal
unfoldable pub written_of : Outcome (List ℕ) → Result ℕ Refusal
written_of (good words p) = Ok (length words)
written_of (bad n p) = Err (refusal n p)

-- the lent buffer afterwards: from a start on, and from the front on
abbrev pub written_from : ℕ → List ℕ → Outcome (List ℕ) → List ℕ
written_from start out o = leaves (sets out start) out o

abbrev pub written_in : List ℕ → Outcome (List ℕ) → List ℕ
written_in out o = written_from 0 out o

-- bytes put from a position on: the position past them, at most some further on, and the buffer afterwards
abbrev pub Puts : List ℕ → ℕ → ℕ → List ℕ → ℕ → List ℕ → Type 0
Puts before at most bytes r after = (r ≡ at + length bytes) × (after ≡ sets before at bytes) × (r ≤ at + most)

-- the greatest position: a sum that is greater ends there, where no buffer has a byte
abbrev pub greatest : ℕ
greatest = 2 ^ 64 - 1

-- the same from any position on, as far as the buffer goes: the position past the bytes, or the greatest
abbrev pub PutsAnywhere : List ℕ → ℕ → ℕ → List ℕ → ℕ → List ℕ → Type 0
PutsAnywhere before at most bytes r after = (r ≡ min (at + length bytes) greatest) × Puts before at most bytes (at + length bytes) after

-- from the front on
abbrev pub Fronts : List ℕ → ℕ → List ℕ → ℕ → List ℕ → Type 0
Fronts before most bytes r after = (r ≡ length bytes) × (after ≡ sets before 0 bytes) × (r ≤ most)
