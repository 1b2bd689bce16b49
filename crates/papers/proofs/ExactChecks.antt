-- A program that is a struct is taken exactly when it is acceptable for its envelope, and it is taken as itself.
use mathlib.Core.Path.{◌≡◌, sym, ap, ap₂, ◌∙◌}
use mathlib.Core.Bool.{true}
use mathlib.Core.List.{List, [], ◌++◌, append_assoc, append-nil, append_cancel_left}
use mathlib.Core.Logic.{◌↔◌}
use Prim.Native.Nat.{ℕ, ◌≤◌}
use native.Mathlib.Omega.{arith}
use lib.ListN.{length, take}
use lib.Seq.{length-take-le}
use Rattle.ground.specs.Lists.{each}
use Rattle.ground.specs.Bytes.{bytes_of}
use Rattle.ground.specs.Outcome.Outcome.{good}
use Rattle.ground.proofs.EveryLaws.{every_map, every_take}
use Rattle.ground.proofs.ByteLaws.{Tells, number_tells, all_tell}
use Rattle.std.specs.Prelude.{Ok}
use Rattle.fields.proofs.PutLaws.{written_back}
use Rattle.entries.specs.Places.{place_bytes}
use Rattle.envelopes.specs.Rules.{Within}
use Rattle.envelopes.specs.Fits.{Fits}
use Rattle.contents.specs.declared.envelope.Envelope.{Envelope}
use Rattle.envelopes.proofs.ExactStructs.{place_tells}
use Rattle.paths.specs.Steps.{step, legal, step_bytes}
use Rattle.papers.specs.Programs.{steps_of, program_with, SJP, read_program, program_bytes, check_program, write_program_of, program_written, program_written_in, Acceptable, tidy_program}
use Rattle.papers.specs.Fits.{StepFits, ProgramFits}
use Rattle.paths.specs.declared.steps.Step.{Step}
use Rattle.papers.specs.declared.programs.Program.{Program}
use Rattle.papers.proofs.ExactPrograms.{site_small, legal_named, program_bytes_lem, read_exact, read_complete}

-- what stands from the steps on, from the count on, from the site on
abbrev from_steps : Program → List ℕ
from_steps p = each step_bytes (steps_of p) ++ []

abbrev from_count : Program → List ℕ
from_count p = bytes_of 1 p.count ++ from_steps p

abbrev from_site : Program → List ℕ
from_site p = bytes_of 1 p.site ++ from_count p

bytes_from : (p : Program) → program_bytes p ≡ (SJP ++ bytes_of 2 1) ++ from_site p
unfolding program_bytes
bytes_from p = simp (append_assoc, append-nil)

step_tells : Tells step_bytes StepFits StepFits (λ t. t)
unfolding step_bytes
step_tells a b x y h k e =
    let (l, e₁) = place_tells a.left b.left (place_bytes a.right ++ x) (place_bytes b.right ++ y) h.left k.left (simp append_assoc at e) in
    let (r, e₂) = place_tells a.right b.right x y h.right k.right e₁ in
    (ap₂ step l r, e₂)

legal_fits : (e : Envelope) → e.relation_count ≤ 8 → (t : Step) → legal e t ≡ true → StepFits t
legal_fits e small t h =
    let (l, r) = legal_named e t h in
    record {
      left = record { relation = omega arith; column = omega arith };
      right = record { relation = omega arith; column = omega arith };
    }

-- ---- the check

-- the program of a struct, by what its bytes were taken as
told : (e : Envelope) → Within e → (p r : Program) → ProgramFits p → Acceptable e r × (tidy_program r ≡ r) → program_bytes p ≡ program_bytes r
    → Acceptable e p × (r ≡ tidy_program p)
unfolding steps_of tidy_program
told e within p r h (w, tidied) same =
    let small : r.site ≤ 7 = site_small e within r.site w.site in
    let e₀ : from_site p ≡ from_site r =
    append_cancel_left (SJP ++ bytes_of 2 1) (from_site p) (from_site r) (sym (bytes_from p) ∙ same ∙ bytes_from r) in
    let (site, e₁) = number_tells 1 p.site r.site (from_count p) (from_count r) h.site (omega arith) e₀ in
    let (count, e₂) = number_tells 1 p.count r.count (from_steps p) (from_steps r) h.count (omega (arith, w.count)) e₁ in
    let few : p.count ≤ 156 = omega (arith, w.count) in
    let whole : length (steps_of p) ≡ p.count = length-take-le p.count p.steps (omega (arith, h.long)) in
    let (steps, _) = all_tell step_bytes StepFits StepFits step_tells (steps_of p) (steps_of r) (whole ∙ count ∙ sym w.whole) [] []
    (every_take StepFits p.count p.steps h.steps)
    (every_map (λ (t : Step). legal e t ≡ true) StepFits (steps_of r) (legal_fits e within.relations.1) w.steps) e₂ in (
      record {
        site = rw site w.site;
        count = few;
        steps = rw steps w.steps;
        whole = whole;
      },
      sym tidied ∙ ap₂ program_with (sym site) (sym steps),
    )

-- A program and its envelope, both structs, are taken exactly when the envelope keeps the sizes and rules and the program
-- is acceptable for it, and then it is taken as itself, with zeros in the places not in use.
pub check_exact : (e : Envelope) → Fits e → (p r : Program) (q : ℕ) → ProgramFits p
    → (check_program e p ≡ good r q) ↔ (Within e × Acceptable e p × (r ≡ tidy_program p) × (q ≡ length (program_bytes p)))
unfolding check_program
check_exact e fits p r q h = (sound, complete)
  where
    sound : read_program e (program_bytes p) ≡ good r q → Within e × Acceptable e p × (r ≡ tidy_program p) × (q ≡ length (program_bytes p))
    sound c =
        let (within, fine, same, end) = (read_exact e fits (program_bytes p) r q (program_bytes_lem p)).0 c in
        let (acceptable, is) = told e within p r h fine same in
        (within, acceptable, is, end)

    complete : Within e × Acceptable e p × (r ≡ tidy_program p) × (q ≡ length (program_bytes p)) → read_program e (program_bytes p) ≡ good r q
    complete (within, acceptable, is, end) = rw (is, end) (read_complete e within p acceptable)

-- What the writer leaves in the buffer, as far as the length that it answers, reads as the program that was written.
pub program_written_back : (e : Envelope) → Fits e → (p : Program) → ProgramFits p → (out : List ℕ) (n : ℕ) → program_written e p out ≡ Ok n
    → read_program e (take n (program_written_in e p out)) ≡ good (tidy_program p) n
unfolding check_program write_program_of
program_written_back e fits p h out n w =
    let (r, q, c, long, same) = written_back (check_program e p) (program_bytes p) out n w in
    let (within, acceptable, is, end) = (check_exact e fits p r q h).0 c in
    ap (read_program e) same ∙ c ∙ ap₂ good is (end ∙ sym long)
