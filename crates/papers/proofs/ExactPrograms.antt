-- A program is read exactly: what is taken is acceptable and is the program that its bytes are written from, and every
-- acceptable program is taken, from its bytes, as itself.
use mathlib.Core.Path.{◌≡◌, refl, sym, ap, subst, ◌∙◌}
use mathlib.Core.Bool.{Bool, true, ◌&&◌, not}
use mathlib.Core.List.{List, append_assoc, append-nil}
use mathlib.Core.Logic.{◌↔◌}
use Prim.Native.Nat.{ℕ, ◌≤◌, ◌<◌}
use native.Mathlib.Omega.{arith}
use lib.ListN.{length}
use lib.Dec.{ltb, eqb}
use borrow.Author.Tests.{ltb-true, eqb-true}
use Rattle.ground.specs.Bytes.{Bytes}
use Rattle.ground.specs.Outcome.{next}
use Rattle.ground.specs.Outcome.Outcome.{good}
use Rattle.ground.proofs.TestLaws.{and_left, and_right}
use Rattle.ground.proofs.EveryLaws.{every_get_d}
use Rattle.ground.proofs.SearchingLaws.{some_at, any_numbers}
use Rattle.ground.proofs.CollectingLaws.{padded_take}
use Rattle.ground.proofs.OutcomeLaws.{next_good}
use Rattle.ground.proofs.ByteLaws.{bytes_bytes, bytes_append, bytes_each}
use Rattle.ground.specs.declared.refusals.Reason.TheVariants.{LeftOver, NotLegal}
use Rattle.fields.specs.Exact.{Reads, Exact}
use Rattle.fields.proofs.ExactReading.{done, tested, restated, last, whole_paper, chained, numbered_exact}
use Rattle.fields.proofs.ExactNumbers.{in_exact, that_exact, head_exact}
use Rattle.entries.specs.Relations.{past_relation}
use Rattle.contents.specs.Parts.{sizes_of, relations_of, relation_count, relation_in, columns_in}
use Rattle.contents.specs.Sites.{site_of, is_at, holds}
use Rattle.envelopes.specs.Envelope.{check_envelope}
use Rattle.envelopes.specs.Rules.{RelationWithin, Within, tidy}
use Rattle.envelopes.specs.Fits.{Fits}
use Rattle.entries.specs.declared.places.Place.{Place}
use Rattle.contents.specs.declared.envelope.Envelope.{Envelope}
use Rattle.contents.proofs.PartLaws.{relation_inside}
use Rattle.envelopes.proofs.WrittenBytes.{place_bytes_lem}
use Rattle.envelopes.proofs.ExactPlaces.{Named, place_exact}
use Rattle.envelopes.proofs.TidyLaws.{tidy_within}
use Rattle.envelopes.proofs.ExactEnvelope.{check_complete}
use Rattle.envelopes.proofs.ExactChecks.{check_exact}
use Rattle.paths.specs.Paths.{column, on_path}
use Rattle.paths.specs.Steps.{step, is_place, legal_by, legal, step_bytes}
use Rattle.papers.specs.Programs.{no_step, steps_of, program_with, SJP, step_at, ended_program, steps_then, program_by, program_against, read_program, program_bytes, Acceptable, tidy_program}
use Rattle.paths.specs.declared.steps.Step.{Step}
use Rattle.papers.specs.declared.programs.Program.{Program}
use Rattle.papers.proofs.TidyLaws.{tidy_acceptable}

-- ---- the site and the steps

-- a site that holds a relation is one of the sites
pub site_small : (e : Envelope) → Within e → (site : ℕ) → holds e site ≡ true → site ≤ 7
unfolding holds is_at site_of
site_small e within site h =
    let (r, _, below, here) = some_at (is_at e site) 0 (relation_count e) (sym (any_numbers (is_at e site) 0 (relation_count e)) ∙ h) in
    let same : site_of e r ≡ site = eqb-true (site_of e r) site (and_right (ltb r (relation_count e)) (eqb (site_of e r) site) here) in
    let fine : RelationWithin (sizes_of e) (relation_in e r) =
    every_get_d (RelationWithin (sizes_of e)) (relations_of e) r past_relation (omega (arith, within.whole_relations)) within.each in
    omega (arith, same, fine.site)

-- a column of the envelope is one by the array
place_named : (e : Envelope) (a : Place) → is_place e a ≡ true → Named e.relation_count e.relations a
unfolding is_place columns_in
place_named e a h =
    let first : Bool = ltb a.relation (relation_count e) in
    let second : Bool = ltb a.column (columns_in e a.relation) in
    let relation : a.relation < e.relation_count = omega (arith, ltb-true a.relation (relation_count e) (and_left first second h)) in
    let column : a.column < columns_in e a.relation = ltb-true a.column (columns_in e a.relation) (and_right first second h) in
    (relation, rw (relation_inside e a.relation relation) at column)

pub legal_named : (e : Envelope) (t : Step) → legal e t ≡ true
    → Named e.relation_count e.relations t.left × Named e.relation_count e.relations t.right
unfolding legal_by
legal_named e t h =
    let left : Bool = is_place e t.left in
    let right : Bool = is_place e t.right in
    let both : (left && right) ≡ true =
    and_left (left && right) (not (eqb t.left.relation t.right.relation) && on_path e (column t.left) (column t.right)) h in
    (place_named e t.left (and_left left right both), place_named e t.right (and_right left right both))

step_exact : (e : Envelope) → e.relation_count ≤ 256 → (s : List ℕ) (i at : ℕ)
    → Exact s at (step_at (legal e) e s i at) step_bytes (λ t. legal e t ≡ true)
unfolding step_at step_bytes
step_exact e small s i at =
    restated s at (λ t _ _. simp append-nil) (λ t _ h. h.1.1.0) (λ t _ h. ((legal_named e t h).0, ((legal_named e t h).1, (h, refl))))
    (chained s at (λ t. t.left) (place_exact e.relation_count small e.relations s at)
    (λ a p _. chained s p (λ t. t.right) (place_exact e.relation_count small e.relations s p)
    (λ b q _. tested s q (legal e (step a b)) (step a b) NotLegal i)
    (λ b t q _ h. ap (λ (x : Step). x.right) h.1))
    (λ a t q _ h. ap (λ (x : Step). x.left) h.1.1))

-- ---- the paper

step_bytes_lem : (t : Step) → Bytes (step_bytes t)
unfolding step_bytes
step_bytes_lem t = search (bytes_append, place_bytes_lem)

letters : Bytes SJP
letters = omega arith

-- what is written is bytes, whatever is in the struct that is written
pub program_bytes_lem : (p : Program) → Bytes (program_bytes p)
unfolding program_bytes
program_bytes_lem p = search (bytes_append, bytes_bytes, bytes_each, step_bytes_lem, letters) depth 8

program_reads : (e : Envelope) → Within e → (s : List ℕ)
    → Reads s 0 (program_against e s) program_bytes (λ p q. (Acceptable e p × (tidy_program p ≡ p)) × (length s ≤ q))
unfolding program_by steps_then ended_program program_bytes tidy_program steps_of
program_reads e within s =
    restated s 0 (λ p _ _. simp (append_assoc, append-nil))
    (λ p _ (_, ((_, site), (count, ((steps, whole), (is, long))))). (
      (record { site = site; count = count.1; steps = steps; whole = whole }, sym is),
      long,
    ))
    (λ p _ ((h, tidied), long).
    let small : p.site ≤ 7 = site_small e within p.site h.site in
    (omega arith, ((omega arith, h.site), ((omega arith, h.count), ((h.steps, h.whole), (sym tidied, long))))))
    (chained s 0 (λ _. 1) (head_exact SJP 1 (omega arith) s)
    (λ v p _. chained s p (λ x. x.site) (that_exact 1 s p (holds e))
    (λ site q _. chained s q (λ x. x.count) (in_exact 1 s q 0 156 (omega arith))
    (λ n u _. chained s u steps_of
    (numbered_exact s (step_at (legal e) e s) step_bytes (λ t. legal e t ≡ true) (step_exact e (omega (arith, within.relations)) s) 0 n u)
    (λ steps z _. last s z LeftOver (done s z (program_with site steps)))
    (λ steps p q _ h. ap steps_of h.0 ∙ padded_take 156 no_step steps))
    (λ n p q _ h. ap (λ (x : Program). x.count) h.1.0 ∙ h.0.1))
    (λ site p q _ h. ap (λ (x : Program). x.site) h.1.1.0))
    (λ v p q fine _. omega arith))

-- ---- zeros in the places not in use

tidy_steps : (p : Program) → steps_of (tidy_program p) ≡ steps_of p
unfolding tidy_program steps_of
tidy_steps p = padded_take 156 no_step (steps_of p)

tidy_program_lem : (p : Program) → tidy_program (tidy_program p) ≡ tidy_program p
unfolding tidy_program
tidy_program_lem p = ap (program_with p.site) (tidy_steps p)

module _ (e : Envelope) (p : Program) (h : Acceptable e p) where
  tidy_count : (tidy_program p).count ≡ p.count
  unfolding tidy_program
  tidy_count = h.whole

  tidy_program_bytes : program_bytes (tidy_program p) ≡ program_bytes p
  unfolding program_bytes tidy_program
  tidy_program_bytes = rw (tidy_steps p, tidy_count)

  tidy_program_acceptable : Acceptable e (tidy_program p)
  unfolding tidy_program
  tidy_program_acceptable =
      record {
        site = h.site;
        count = rw tidy_count h.count;
        steps = rw (tidy_steps p) h.steps;
        whole = rw (tidy_steps p) refl;
      }

-- ---- a program and its bytes

-- Against an envelope that keeps the sizes and rules, bytes are taken as a program exactly when the program is acceptable,
-- has zeros in the places not in use, and is written as these very bytes, all of them.
pub program_exact : (e : Envelope) → Within e → (s : List ℕ) (p : Program) (q : ℕ) → Bytes s
    → (program_against e s ≡ good p q) ↔ ((Acceptable e p × (tidy_program p ≡ p)) × (s ≡ program_bytes p) × (q ≡ length s))
program_exact e within s p q all = whole_paper s (program_reads e within s) p q all

-- An acceptable program is taken from its bytes as itself, with zeros in the places not in use.
pub program_complete : (e : Envelope) → Within e → (p : Program) → Acceptable e p
    → program_against e (program_bytes p) ≡ good (tidy_program p) (length (program_bytes p))
program_complete e within p h =
    rw (tidy_program_bytes e p h) at
    ((program_exact e within (program_bytes (tidy_program p)) (tidy_program p) (length (program_bytes (tidy_program p)))
    (program_bytes_lem (tidy_program p))).1 ((tidy_program_acceptable e p h, tidy_program_lem p), refl, refl))

-- ---- against an envelope that is a struct

-- Bytes are taken as a program for a struct exactly when the struct keeps the sizes and rules, and the program is
-- acceptable for it, has zeros in the places not in use, and is written as these very bytes, all of them.
pub read_exact : (e : Envelope) → Fits e → (s : List ℕ) (p : Program) (q : ℕ) → Bytes s
    → (read_program e s ≡ good p q) ↔ (Within e × (Acceptable e p × (tidy_program p ≡ p)) × (s ≡ program_bytes p) × (q ≡ length s))
unfolding read_program
read_exact e fits s p q all = (sound, complete)
  where
    sound : next (check_envelope e) (λ f _. program_against f s) ≡ good p q
        → Within e × (Acceptable e p × (tidy_program p ≡ p)) × (s ≡ program_bytes p) × (q ≡ length s)
    sound h =
        let (f, r, check, program) = next_good (check_envelope e) (λ f _. program_against f s) p q h in
        let (within, is, _) = (check_exact e f r fits).0 check in
        let taken : program_against (tidy e) s ≡ good p q = subst (λ (x : Envelope). program_against x s ≡ good p q) is program in
        let ((acceptable, tidied), same, end) = (program_exact (tidy e) (tidy_within e within) s p q all).0 taken in
        (within, ((tidy_acceptable e within p).0 acceptable, tidied), same, end)

    complete : Within e × (Acceptable e p × (tidy_program p ≡ p)) × (s ≡ program_bytes p) × (q ≡ length s)
        → next (check_envelope e) (λ f _. program_against f s) ≡ good p q
    complete (within, (acceptable, tidied), same, end) =
        rw (check_complete e within)
        ((program_exact (tidy e) (tidy_within e within) s p q all).1 (((tidy_acceptable e within p).1 acceptable, tidied), same, end))

-- An acceptable program is taken from its bytes for a struct that keeps the sizes and rules.
pub read_complete : (e : Envelope) → Within e → (p : Program) → Acceptable e p
    → read_program e (program_bytes p) ≡ good (tidy_program p) (length (program_bytes p))
unfolding read_program
read_complete e within p h =
    rw (check_complete e within) (program_complete (tidy e) (tidy_within e within) p ((tidy_acceptable e within p).1 h))
