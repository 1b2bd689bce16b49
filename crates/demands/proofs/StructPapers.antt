-- An envelope that is a struct is refused by 3, 4, 5, 6 or 9 alone, and a program by 4 or 8: both are read over the bytes that they
-- are written as, to the end.
use mathlib.Core.Path.{◌≡◌, refl, sym, ap, subst, ◌∙◌}
use mathlib.Core.Bool.{Bool}
use mathlib.Core.List.{List, [], ◌∷◌, ◌++◌, append_assoc, append-nil, Memᴰ}
use Prim.Native.Nat.{ℕ, ◌+◌, ◌≤◌, ◌<◌}
use native.Mathlib.Omega.{arith}
use borrow.Author.Tests.{le-ltb}
use lib.ListN.{length, length-append}
use lib.Seq.{length-take-le}
use lib.Dec.{ltb}
use Rattle.ground.specs.Lists.{Every, each}
use Rattle.ground.specs.Bytes.{bytes_of, Stands}
use Rattle.ground.specs.Outcome.{Outcome, next, numbered, many}
use Rattle.ground.specs.Outcome.Outcome.{good, bad}
use Rattle.ground.proofs.EveryLaws.{every_take}
use Rattle.ground.proofs.OutcomeLaws.{good_bad}
use Rattle.ground.proofs.ByteLaws.{stands_self, stands_inside, bytes_length}
use Rattle.ground.specs.declared.refusals.Reason.TheVariants.{WrongVersion, BeyondLimit, TwoDomains, SameColumn, NotLegal, NoKeptColumn}
use Rattle.fields.specs.Numbers.{between, mark_at, version_at, head_of}
use Rattle.fields.proofs.NumberLaws.{between_true}
use Rattle.fields.proofs.ExactNumbers.{mark_exact}
use Rattle.entries.specs.Places.{place_at, place_bytes}
use Rattle.entries.specs.Relations.{relation_at, relation_bytes}
use Rattle.entries.specs.Clauses.{clause_at, clause_bytes}
use Rattle.entries.specs.declared.clauses.Clause.{Clause}
use Rattle.contents.specs.Parts.{sizes_of, relations_of, clauses_of, targets_of, relation_count, no_envelope, with_version, with_sizes, with_relations, with_clauses, with_targets}
use Rattle.contents.specs.Kept.{first_bare}
use Rattle.contents.specs.Sites.{holds}
use Rattle.contents.specs.declared.envelope.Envelope.{Envelope}
use Rattle.envelopes.specs.Fits.{PlaceFits, RelationFits, ClauseFits, Fits}
use Rattle.envelopes.specs.Envelope.{filled, list_into, size_at, sizes_into, relations_into, clauses_into, targets_into, CPN, ended, targets_then, clauses_then, relations_then, sizes_then, envelope_from, read_envelope, envelope_bytes, check_envelope}
use Rattle.envelopes.proofs.ReadingLaws.{bare_picked}
use Rattle.paths.specs.Steps.{step, legal, step_bytes}
use Rattle.paths.specs.declared.steps.Step.{Step}
use Rattle.papers.specs.Programs.{SJP, steps_of, program_with, step_at, ended_program, steps_then, program_by, program_against, program_bytes}
use Rattle.papers.specs.Checks.{papers_of}
use Rattle.papers.specs.Fits.{StepFits, ProgramFits}
use Rattle.papers.specs.declared.programs.Program.{Program}
use Rattle.demands.specs.DemandOne.{struct_numbers}
use Rattle.demands.proofs.PaperLaws.{papers_by}
use Rattle.demands.proofs.StructLaws.{Over, over_done, over_bad, over_restated, over_pick, over_chain, over_each, over_number, over_plain, place_over, relation_over, kind_over}
use Rattle.ground.specs.declared.refusals.Reason.{Reason}
use Rattle.ground.specs.Refusals.{number_of}

-- the arrays are as long as their counts ask, where those are within the limits
sizes_whole : (x : Envelope) → Fits x → x.domain_count ≤ 16 → length (sizes_of x) ≡ x.domain_count
unfolding sizes_of
sizes_whole x f few = length-take-le x.domain_count x.sizes (omega (arith, f.long_sizes))

relations_whole : (x : Envelope) → Fits x → x.relation_count ≤ 8 → length (relations_of x) ≡ x.relation_count
unfolding relations_of
relations_whole x f few = length-take-le x.relation_count x.relations (omega (arith, f.long_relations))

clauses_whole : (x : Envelope) → Fits x → x.clause_count ≤ 12 → length (clauses_of x) ≡ x.clause_count
unfolding clauses_of
clauses_whole x f few = length-take-le x.clause_count x.clauses (omega (arith, f.long_clauses))

targets_whole : (x : Envelope) → Fits x → x.target_count ≤ 16 → length (targets_of x) ≡ x.target_count
unfolding targets_of
targets_whole x f few = length-take-le x.target_count x.targets (omega (arith, f.long_targets))

-- what stands from a part on
abbrev listed : {B : Type 0} → (B → List ℕ) → ℕ → List B → List ℕ
listed bytes count l = bytes_of 1 count ++ each bytes l

abbrev from_targets : Envelope → List ℕ
from_targets x = listed place_bytes x.target_count (targets_of x) ++ []

abbrev from_clauses : Envelope → List ℕ
from_clauses x = listed clause_bytes x.clause_count (clauses_of x) ++ from_targets x

abbrev from_relations : Envelope → List ℕ
from_relations x = listed relation_bytes x.relation_count (relations_of x) ++ from_clauses x

abbrev from_sizes : Envelope → List ℕ
from_sizes x = listed (bytes_of 4) x.domain_count (sizes_of x) ++ from_relations x

module _ (P : Reason → Type 0) (s : List ℕ) (four : P BeyondLimit) where
  onward : (at : ℕ) (u w : List ℕ) → at + length (u ++ w) ≡ length s → at + length u + length w ≡ length s
  onward at u w h = omega (arith, h, length-append u w)

  -- the mark and the version: 3
  head_over : (letters : List ℕ) (v : ℕ) → 0 < length letters → v < 65536 → P WrongVersion → Stands (letters ++ bytes_of 2 v) s 0
      → Over P s 0 (head_of letters 1 s) (letters ++ bytes_of 2 v)
  unfolding head_of version_at
  head_over letters v some small three stands =
      over_chain P s 0 (mark_at letters s 0) _ letters (bytes_of 2 v) stands mark
      (λ _ z. over_restated P s (0 + length letters) _ (bytes_of 2 v ++ []) (bytes_of 2 v) (simp append-nil) z
      (λ y. over_plain P s four 2 v (0 + length letters) _ [] (omega arith) small y
      (λ _. over_pick P s _ (between 1 1 v) _ _ [] (over_done P s _ v) (over_bad P s _ WrongVersion _ [] three))))
    where
      mark : Stands letters s 0 → Over P s 0 (mark_at letters s 0) letters
      mark z =
          let inside : 0 + length letters ≤ length s = stands_inside letters s 0 z some in
          let is : mark_at letters s 0 ≡ good letters (0 + length letters) =
          (mark_exact letters s 0).complete letters (0 + length letters) refl (omega arith, z) (omega (arith, inside)) in
          record {
            refuses = λ n u h. absurd (good_bad letters (0 + length letters) n u (sym is ∙ h));
            ends = λ l p h. let same : 0 + length letters ≡ p = cc (sym is ∙ h) in omega (arith, same);
          }

  -- a count within its limits, and as many of a kind
  list_over : {A B : Type 0} (low high : ℕ) (put : List A → Envelope → Envelope) (item : ℕ → Outcome A) (bytes : B → List ℕ) (Fit : B → Type 0)
      → ((b : B) (at : ℕ) → Fit b → Stands (bytes b) s at → Over P s at (item at) (bytes b)) → (l : List B) (count : ℕ) → count < 256
      → (count ≤ high → length l ≡ count) → Every Fit l → (at : ℕ) (e : Envelope) → Stands (listed bytes count l) s at
      → Over P s at (list_into low high put item s at e) (listed bytes count l)
  unfolding list_into filled
  list_over low high put item bytes Fit x l count small whole fit at e stands =
      over_number P s (between low high) 1 count at _ (each bytes l) four (omega arith) small stands
      (λ few z. over_restated P s (at + 1) _ (each bytes l ++ []) (each bytes l) (simp append-nil) z
      (λ y. over_chain P s (at + 1) (many item count (at + 1)) _ (each bytes l) [] y
      (λ v. rw (whole (between_true low high count few).1) at (over_each P s (λ _. item) bytes Fit (λ b _ q g t. x b q g t) l 0 (at + 1) fit v))
      (λ vs v. over_done P s _ (put vs e))))

  size_over : (v at : ℕ) → v < 4294967296 → Stands (bytes_of 4 v) s at → Over P s at (size_at s at) (bytes_of 4 v)
  size_over v at small stands = record { refuses = λ n u h. size.refuses n u (again n u h); ends = λ x p h. size.ends x p (rw h) }
    where
      size : Over P s at (next (size_at s at) good) (bytes_of 4 v)
      size =
          over_restated P s at _ (bytes_of 4 v ++ []) (bytes_of 4 v) (simp append-nil) stands
          (λ z. over_number P s (between 1 16777215) 4 v at good [] four (omega arith) small z (λ _ _. over_done P s (at + 4) v))

      again : (n : Reason) (u : ℕ) → size_at s at ≡ bad n u → next (size_at s at) good ≡ bad n u
      again n u h = rw h

  module _ (five : P TwoDomains) (six : P SameColumn) (nine : P NoKeptColumn) (x : Envelope) (f : Fits x) where
    ended_over : (at : ℕ) (e : Envelope) → length s ≤ at → Over P s at (ended s at e) []
    unfolding ended
    ended_over at e end =
        rw (le-ltb at (length s) end, bare_picked (ltb (first_bare e) (relation_count e)) (first_bare e) e at)
        (over_pick P s at (ltb (first_bare e) (relation_count e)) _ _ [] (over_bad P s at NoKeptColumn (first_bare e) [] nine) (over_done P s at e))

    targets_over : (at : ℕ) (e : Envelope) → at + length (from_targets x) ≡ length s → Stands (from_targets x) s at
        → Over P s at (targets_then s at e) (from_targets x)
    unfolding targets_then targets_of
    targets_over at e end stands =
        let u = listed place_bytes x.target_count (targets_of x) in
        over_chain P s at (targets_into s at e) _ u [] stands
        (λ z. list_over 1 16 with_targets (place_at e.relation_count e.relations s) place_bytes PlaceFits
        (λ a q g t. place_over P s four e.relation_count e.relations a q g t)
        (targets_of x) x.target_count f.targets (targets_whole x f) (every_take PlaceFits x.target_count x.targets f.named) at e z)
        (λ g z. ended_over (at + length u) g (omega (arith, onward at u [] end)))

    clauses_over : (at : ℕ) (e : Envelope) → at + length (from_clauses x) ≡ length s → Stands (from_clauses x) s at
        → Over P s at (clauses_then s at e) (from_clauses x)
    unfolding clauses_then clauses_of
    clauses_over at e end stands =
        let u = listed clause_bytes x.clause_count (clauses_of x) in
        over_chain P s at (clauses_into s at e) _ u (from_targets x) stands
        (λ z. list_over 0 12 with_clauses (clause_at e.relation_count e.relations s) clause_bytes ClauseFits
        (λ (c : Clause) q g t. kind_over P s four five six e.relation_count e.relations c.kind q g t)
        (clauses_of x) x.clause_count f.clauses (clauses_whole x f) (every_take ClauseFits x.clause_count x.clauses f.rules) at e z)
        (λ g z. targets_over (at + length u) g (onward at u (from_targets x) end) z)

    relations_over : (at : ℕ) (e : Envelope) → at + length (from_relations x) ≡ length s → Stands (from_relations x) s at
        → Over P s at (relations_then s at e) (from_relations x)
    unfolding relations_then relations_of
    relations_over at e end stands =
        let u = listed relation_bytes x.relation_count (relations_of x) in
        over_chain P s at (relations_into s at e) _ u (from_clauses x) stands
        (λ z. list_over 1 8 with_relations (relation_at e.domain_count e.sizes s) relation_bytes RelationFits
        (λ r q g t. relation_over P s four e.domain_count e.sizes r q g t)
        (relations_of x) x.relation_count f.relations (relations_whole x f) (every_take RelationFits x.relation_count x.relations f.each) at e z)
        (λ g z. clauses_over (at + length u) g (onward at u (from_clauses x) end) z)

    sizes_over : (at : ℕ) (e : Envelope) → at + length (from_sizes x) ≡ length s → Stands (from_sizes x) s at
        → Over P s at (sizes_then s at e) (from_sizes x)
    unfolding sizes_then sizes_of
    sizes_over at e end stands =
        let u = listed (bytes_of 4) x.domain_count (sizes_of x) in
        over_chain P s at (sizes_into s at e) _ u (from_relations x) stands
        (λ z. list_over 1 16 with_sizes (size_at s) (bytes_of 4) (λ n. n < 4294967296) (λ v q g t. size_over v q g t)
        (sizes_of x) x.domain_count f.domains (sizes_whole x f) (every_take (λ n. n < 4294967296) x.domain_count x.sizes f.sizes) at e z)
        (λ g z. relations_over (at + length u) g (onward at u (from_relations x) end) z)

    pub envelope_over : P WrongVersion → s ≡ (CPN ++ bytes_of 2 x.version) ++ from_sizes x → (n : Reason) (u : ℕ) → read_envelope s ≡ bad n u → P n
    unfolding envelope_from
    envelope_over three is =
        let front = CPN ++ bytes_of 2 x.version in
        let stands : Stands (front ++ from_sizes x) s 0 = subst (λ (l : List ℕ). Stands l s 0) is (stands_self s) in
        let end : 0 + length (front ++ from_sizes x) ≡ length s = omega (arith, ap (λ (l : List ℕ). length l) is) in
        (over_chain P s 0 (head_of CPN 1 s) _ front (from_sizes x) stands
        (λ z. head_over CPN x.version (omega arith) f.version three z)
        (λ v z. sizes_over (0 + length front) (with_version v no_envelope) (onward 0 front (from_sizes x) end) z)
        ).refuses

  -- ---- a program

  module _ (eight : P NotLegal) (lawful : Step → Bool) (e : Envelope) (p : Program) (f : ProgramFits p) where
    step_over : (t : Step) (i at : ℕ) → StepFits t → Stands (step_bytes t) s at → Over P s at (step_at lawful e s i at) (step_bytes t)
    unfolding step_at step_bytes
    step_over t i at g stands =
        over_restated P s at _ (place_bytes t.left ++ (place_bytes t.right ++ [])) _ (simp append-nil) stands
        (λ there. over_chain P s at (place_at e.relation_count e.relations s at) _ (place_bytes t.left) (place_bytes t.right ++ []) there
        (λ z. place_over P s four e.relation_count e.relations t.left at g.left z)
        (λ a z. over_chain P s (at + length (place_bytes t.left)) (place_at e.relation_count e.relations s (at + length (place_bytes t.left))) _
        (place_bytes t.right) [] z
        (λ y. place_over P s four e.relation_count e.relations t.right (at + length (place_bytes t.left)) g.right y)
        (λ b y. over_pick P s _ (lawful (step a b)) _ _ [] (over_done P s _ (step a b)) (over_bad P s _ NotLegal i [] eight))))

    steps_whole : p.count ≤ 156 → length (steps_of p) ≡ p.count
    unfolding steps_of
    steps_whole few = length-take-le p.count p.steps (omega (arith, f.long))

    steps_fit : Every StepFits (steps_of p)
    unfolding steps_of
    steps_fit = every_take StepFits p.count p.steps f.steps

    ended_program_lem : (at : ℕ) (q : Program) → length s ≤ at → Over P s at (ended_program s at q) []
    unfolding ended_program
    ended_program_lem at q end = rw (le-ltb at (length s) end) (over_done P s at q)

    pub program_over : P WrongVersion
        → s ≡ (SJP ++ bytes_of 2 1) ++ (bytes_of 1 p.site ++ (bytes_of 1 p.count ++ (each step_bytes (steps_of p) ++ [])))
        → (n : Reason) (u : ℕ) → program_by lawful e s ≡ bad n u → P n
    unfolding program_by steps_then
    program_over three is =
        let front = SJP ++ bytes_of 2 1 in
        let steps = each step_bytes (steps_of p) in
        let rest = bytes_of 1 p.site ++ (bytes_of 1 p.count ++ (steps ++ [])) in
        let stands : Stands (front ++ rest) s 0 = subst (λ (l : List ℕ). Stands l s 0) is (stands_self s) in
        let end : 0 + length front + 1 + 1 + length steps ≡ length s =
        omega (
          arith,
          ap (λ (l : List ℕ). length l) is,
          length-append front rest,
          length-append (bytes_of 1 p.site) (bytes_of 1 p.count ++ (steps ++ [])),
          length-append (bytes_of 1 p.count) (steps ++ []),
          ap (λ (l : List ℕ). length l) (append-nil steps),
          bytes_length 1 p.site,
          bytes_length 1 p.count,
        ) in
        (over_chain P s 0 (head_of SJP 1 s) _ front rest stands
        (λ z. head_over SJP 1 (omega arith) (omega arith) three z)
        (λ _ z. over_number P s (holds e) 1 p.site (0 + length front) _ (bytes_of 1 p.count ++ (steps ++ [])) four (omega arith) f.site z
        (λ _ y. over_number P s (between 0 156) 1 p.count (0 + length front + 1) _ (steps ++ []) four (omega arith) f.count y
        (λ few x. over_chain P s (0 + length front + 1 + 1) (numbered (step_at lawful e s) 0 p.count (0 + length front + 1 + 1)) _ steps [] x
        (λ v. rw (steps_whole (between_true 0 156 p.count few).1) at
        (over_each P s (step_at lawful e s) step_bytes StepFits step_over (steps_of p) 0 (0 + length front + 1 + 1) steps_fit v))
        (λ l v. ended_program_lem (0 + length front + 1 + 1 + length steps) (program_with p.site l) (omega (arith, end))))))
        ).refuses

-- ---- so

envelope_from_lem : (e : Envelope) → envelope_bytes e ≡ (CPN ++ bytes_of 2 e.version) ++ from_sizes e
unfolding envelope_bytes
envelope_from_lem e = simp (append_assoc, append-nil)

program_from : (p : Program)
    → program_bytes p ≡ (SJP ++ bytes_of 2 1) ++ (bytes_of 1 p.site ++ (bytes_of 1 p.count ++ (each step_bytes (steps_of p) ++ [])))
unfolding program_bytes
program_from p = simp (append_assoc, append-nil)

pub check_struct : (e : Envelope) → Fits e → (n : Reason) (u : ℕ) → check_envelope e ≡ bad n u → Memᴰ (number_of n) struct_numbers
unfolding check_envelope number_of
check_struct e f =
    envelope_over (λ n. Memᴰ (number_of n) struct_numbers) (envelope_bytes e) (search (Memᴰ.head, Memᴰ.tail) depth 12)
    (search (Memᴰ.head, Memᴰ.tail) depth 12) (search (Memᴰ.head, Memᴰ.tail) depth 12)
    (search (Memᴰ.head, Memᴰ.tail) depth 12) e f (search Memᴰ.head) (envelope_from_lem e)

against_struct : (e : Envelope) (p : Program) → ProgramFits p → (n : Reason) (u : ℕ) → program_against e (program_bytes p) ≡ bad n u
    → Memᴰ (number_of n) (8 ∷ struct_numbers)
unfolding number_of
against_struct e p f =
    program_over (λ n. Memᴰ (number_of n) (8 ∷ struct_numbers)) (program_bytes p) (search (Memᴰ.head, Memᴰ.tail) depth 12)
    (search Memᴰ.head) (legal e) e p f (search (Memᴰ.head, Memᴰ.tail) depth 12) (program_from p)

pub papers_struct : (e : Envelope) → Fits e → (p : Program) → ProgramFits p → (n : Reason) (u : ℕ) → papers_of e p ≡ bad n u
    → Memᴰ (number_of n) (8 ∷ struct_numbers)
papers_struct e f p g n u h = papers_by e p n u h (λ z. Memᴰ.tail (check_struct e f n u z)) (λ x z. against_struct x p g n u z)
