-- "Program: SJP and a 16-bit version, 1; assembly site, 1 byte (it must hold a relation, else 4); step count, 1; steps as
-- left relation, left column, right relation, right column, 1 byte each." "Steps 0 to 156." "Within a clause or step the
-- range of each number comes first, then 5, 6 or 8." "Papers are checked field by field as they stand, then 7, then 9
-- (envelope only)."
use Rattle.std.specs.Prelude.{Result, ℕ, ◌≤◌, ◌≡◌, Bool, true, List, [], ◌∷◌, ◌++◌, length, take, replicate, nat_lt}
use Rattle.ground.specs.Tests.{pick}
use Rattle.ground.specs.Lists.{Every, each, padded}
use Rattle.ground.specs.Outcome.{Outcome, next, numbered}
use Rattle.ground.specs.Outcome.Outcome.{good, bad}
use Rattle.ground.specs.Bytes.{bytes_of}
use Rattle.ground.specs.declared.refusals.Reason.TheVariants.{LeftOver, NotLegal}
use Rattle.ground.specs.declared.refusals.Refusal.{Refusal}
use Rattle.fields.specs.Numbers.{number_in, number_that, head_of}
use Rattle.fields.specs.Puts.{fitted, written_of, written_in}
use Rattle.entries.specs.Places.{no_place, place_at}
use Rattle.contents.specs.Sites.{holds}
use Rattle.envelopes.specs.Envelope.{check_envelope}
use Rattle.contents.specs.declared.envelope.Envelope.{Envelope}
use Rattle.paths.specs.Steps.{step, legal, step_bytes}
use Rattle.paths.specs.declared.steps.Step.{Step}
use Rattle.papers.specs.declared.programs.Program.{Program}

abbrev pub no_step : Step
no_step = step no_place no_place

unfoldable pub steps_of : Program → List Step
steps_of p = take p.count p.steps

-- a program with its steps in an array of 156
abbrev pub program_with : ℕ → List Step → Program
program_with site steps = record { site = site; count = length steps; steps = padded 156 no_step steps }

abbrev pub no_program : Program
no_program = record { site = 0; count = 0; steps = replicate 156 no_step }

-- the letters SJP
abbrev pub SJP : List ℕ
SJP = 83 ∷ 74 ∷ 80 ∷ []

-- step i: its two columns, in range; then it is lawful, or 8 with its number
unfoldable pub step_at : (Step → Bool) → Envelope → List ℕ → ℕ → ℕ → Outcome Step
step_at lawful e s i at =
    next (place_at e.relation_count e.relations s at)
    (λ a p. next (place_at e.relation_count e.relations s p)
    (λ b q. pick (lawful (step a b)) (good (step a b) q) (bad NotLegal i)))

-- nothing may be left over
unfoldable pub ended_program : List ℕ → ℕ → Program → Outcome Program
ended_program s at p = pick (nat_lt at (length s)) (bad LeftOver at) (good p at)

-- n steps, then the end
abbrev pub steps_from : (Step → Bool) → Envelope → List ℕ → ℕ → ℕ → ℕ → Outcome Program
steps_from lawful e s site n at =
    next (numbered (step_at lawful e s) 0 n at) (λ steps q. ended_program s q (program_with site steps))

-- a count from 0 to 156, and the steps
unfoldable pub steps_then : (Step → Bool) → Envelope → List ℕ → ℕ → ℕ → Outcome Program
steps_then lawful e s site at = next (number_in 1 0 156 s at) (λ n p. steps_from lawful e s site n p)

-- the whole paper against a good envelope
unfoldable pub program_by : (Step → Bool) → Envelope → List ℕ → Outcome Program
program_by lawful e s =
    next (head_of SJP 1 s)
    (λ _ p. next (number_that (holds e) 1 s p)
    (λ site q. steps_then lawful e s site q))

abbrev pub program_against : Envelope → List ℕ → Outcome Program
program_against e = program_by (legal e) e

-- "An envelope, then a program": an envelope that is a struct is checked first
unfoldable pub read_program : Envelope → List ℕ → Outcome Program
read_program e s = next (check_envelope e) (λ e _. program_against e s)

unfoldable pub program_bytes : Program → List ℕ
program_bytes p = SJP ++ bytes_of 2 1 ++ bytes_of 1 p.site ++ bytes_of 1 p.count ++ each step_bytes (steps_of p)

-- "a program, not given as bytes, .. is checked first as its bytes would be"
unfoldable pub check_program : Envelope → Program → Outcome Program
check_program e p = read_program e (program_bytes p)

-- writing it into so much room: the envelope, then the program, is checked first, then 11
unfoldable pub write_program_of : Envelope → Program → ℕ → Outcome (List ℕ)
write_program_of e p room = next (check_program e p) (λ _ _. fitted room (program_bytes p))

abbrev pub program_written : Envelope → Program → List ℕ → Result ℕ Refusal
program_written e p out = written_of (write_program_of e p (length out))

abbrev pub program_written_in : Envelope → Program → List ℕ → List ℕ
program_written_in e p out = written_in out (write_program_of e p (length out))

-- ---- demand 2's "accepted exactly when it is well formed and each of its steps is legal", as a statement: whole says that the array
-- is as long as the count asks

pub record Acceptable (e : Envelope) (p : Program) : Type 0 where
  pub site : holds e p.site ≡ true
  pub count : p.count ≤ 156
  pub steps : Every (λ (s : Step). legal e s ≡ true) (steps_of p)
  pub whole : length (steps_of p) ≡ p.count

-- the same program with zeros where the array is not in use
unfoldable pub tidy_program : Program → Program
tidy_program p = program_with p.site (steps_of p)
