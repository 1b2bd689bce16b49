-- Papers are refused by 1 to 9 alone, an envelope never by 8; and so are what is planned or estimated of them. Writing them
-- is refused by those or 11.
use mathlib.Core.Path.{◌≡◌}
use mathlib.Core.List.{List, [], ◌∷◌, Memᴰ}
use mathlib.Core.Logic.{◌⊎◌, inl, inr}
use Prim.Native.Nat.{ℕ}
use Rattle.ground.specs.Outcome.{Outcome, next}
use Rattle.ground.specs.Outcome.Outcome.{good, bad}
use Rattle.ground.proofs.OutcomeLaws.{good_bad, next_bad, turned_bad}
use Rattle.ground.specs.declared.refusals.Reason.TheVariants.{TooShort}
use Rattle.fields.specs.Puts.{fitted}
use Rattle.fields.proofs.PutLaws.{fitted_bad}
use Rattle.contents.specs.declared.envelope.Envelope.{Envelope}
use Rattle.envelopes.specs.Envelope.{read_envelope, check_envelope, write_envelope_of, envelope_bytes}
use Rattle.paths.specs.Steps.{legal}
use Rattle.papers.specs.Programs.{program_against, read_program, check_program, write_program_of, program_bytes}
use Rattle.papers.specs.Checks.{papers_of}
use Rattle.papers.specs.declared.programs.Program.{Program}
use Rattle.papers.specs.declared.checks.Papers.{Papers}
use Rattle.estimates.specs.Estimate.{estimate_of}
use Rattle.planner.specs.Plan.{plan_of}
use Rattle.demands.specs.DemandOne.{envelope_numbers, papers_numbers}
use Rattle.demands.proofs.NumberLaws.{envelope_number, program_number}
use Rattle.ground.specs.declared.refusals.Reason.{Reason}
use Rattle.ground.specs.Refusals.{number_of}

-- ---- reading and checking

pub read_number : (s : List ℕ) (n : Reason) (u : ℕ) → read_envelope s ≡ bad n u → Memᴰ (number_of n) envelope_numbers
unfolding number_of
read_number s =
    envelope_number (λ n. Memᴰ (number_of n) envelope_numbers) (search Memᴰ.head) (search (Memᴰ.head, Memᴰ.tail) depth 12)
    (search (Memᴰ.head, Memᴰ.tail) depth 12) (search (Memᴰ.head, Memᴰ.tail) depth 12)
    (search (Memᴰ.head, Memᴰ.tail) depth 12) (search (Memᴰ.head, Memᴰ.tail) depth 12) s
    (search (Memᴰ.head, Memᴰ.tail) depth 12) (search (Memᴰ.head, Memᴰ.tail) depth 12)

pub check_number : (e : Envelope) (n : Reason) (u : ℕ) → check_envelope e ≡ bad n u → Memᴰ (number_of n) envelope_numbers
unfolding check_envelope
check_number e = read_number (envelope_bytes e)

against_number : (e : Envelope) (s : List ℕ) (n : Reason) (u : ℕ) → program_against e s ≡ bad n u → Memᴰ (number_of n) papers_numbers
unfolding number_of
against_number e s =
    program_number (λ n. Memᴰ (number_of n) papers_numbers) (search (Memᴰ.head, Memᴰ.tail) depth 12)
    (search (Memᴰ.head, Memᴰ.tail) depth 12) (search (Memᴰ.head, Memᴰ.tail) depth 12)
    (search (Memᴰ.head, Memᴰ.tail) depth 12) (search (Memᴰ.head, Memᴰ.tail) depth 12)
    (search Memᴰ.head) (legal e) e s

pub program_read_number : (e : Envelope) (s : List ℕ) (n : Reason) (u : ℕ) → read_program e s ≡ bad n u → Memᴰ (number_of n) papers_numbers
unfolding read_program
program_read_number e s n u h = go (next_bad (check_envelope e) (λ f _. program_against f s) n u h)
  where
    go : (check_envelope e ≡ bad n u) ⊎ ((f : Envelope) × (p : ℕ) × (check_envelope e ≡ good f p) × (program_against f s ≡ bad n u))
        → Memᴰ (number_of n) papers_numbers
    go (inl z) = Memᴰ.tail (check_number e n u z)
    go (inr (f, _, _, z)) = against_number f s n u z

pub program_check_number : (e : Envelope) (p : Program) (n : Reason) (u : ℕ) → check_program e p ≡ bad n u → Memᴰ (number_of n) papers_numbers
unfolding check_program
program_check_number e p = program_read_number e (program_bytes p)

-- both papers are refused where one of them is
pub papers_by : {A : Type 0} (e : Envelope) (p : Program) (n : Reason) (u : ℕ) → papers_of e p ≡ bad n u → (check_envelope e ≡ bad n u → A)
    → ((f : Envelope) → program_against f (program_bytes p) ≡ bad n u → A) → A
unfolding papers_of
papers_by {A} e p n u h first second = go (next_bad (check_envelope e) _ n u h)
  where
    made : Envelope → Program → ℕ → Outcome Papers
    made f q at = good (record { envelope = f; program = q }) at

    go : (check_envelope e ≡ bad n u)
        ⊎ ((f : Envelope) × (v : ℕ) × (check_envelope e ≡ good f v) × (next (program_against f (program_bytes p)) (made f) ≡ bad n u)) → A
    go (inl z) = first z
    go (inr (f, _, _, z)) = second f (turned_bad _ (program_against f (program_bytes p)) n u z)

pub papers_number : (e : Envelope) (p : Program) (n : Reason) (u : ℕ) → papers_of e p ≡ bad n u → Memᴰ (number_of n) papers_numbers
papers_number e p n u h = papers_by e p n u h (λ z. Memᴰ.tail (check_number e n u z)) (λ f z. against_number f (program_bytes p) n u z)

-- ---- writing

write_number : {A : Type 0} (o : Outcome A) (bytes : List ℕ) (room : ℕ) (n : Reason) (u : ℕ) → next o (λ _ _. fitted room bytes) ≡ bad n u
    → (o ≡ bad n u) ⊎ Memᴰ n (TooShort ∷ [])
write_number {A} o bytes room n u h = go (next_bad o _ n u h)
  where
    go : (o ≡ bad n u) ⊎ ((a : A) × (p : ℕ) × (o ≡ good a p) × (fitted room bytes ≡ bad n u)) → (o ≡ bad n u) ⊎ Memᴰ n (TooShort ∷ [])
    go (inl k) = inl k
    go (inr (_, _, _, k)) = inr (fitted_bad room bytes n u k).0

pub envelope_write_number : (e : Envelope) (room : ℕ) (n : Reason) (u : ℕ) → write_envelope_of e room ≡ bad n u → (check_envelope e ≡ bad n u) ⊎ Memᴰ n (TooShort ∷ [])
unfolding write_envelope_of
envelope_write_number e room n u h = write_number (check_envelope e) (envelope_bytes e) room n u h

pub program_write_number : (e : Envelope) (p : Program) (room : ℕ) (n : Reason) (u : ℕ) → write_program_of e p room ≡ bad n u
    → (check_program e p ≡ bad n u) ⊎ Memᴰ n (TooShort ∷ [])
unfolding write_program_of
program_write_number e p room n u h = write_number (check_program e p) (program_bytes p) room n u h

-- ---- planning and estimating

pub plan_refused : (o : Outcome Envelope) (n : Reason) (u : ℕ) → plan_of o ≡ bad n u → o ≡ bad n u
unfolding plan_of
plan_refused (good e p) n u h = absurd (good_bad _ p n u h)
plan_refused (bad m p) n u h = cc

pub estimate_refused : (o : Outcome Papers) (n : Reason) (u : ℕ) → estimate_of o ≡ bad n u → o ≡ bad n u
unfolding estimate_of
estimate_refused (good q p) n u h = absurd (good_bad _ p n u h)
estimate_refused (bad m p) n u h = cc
