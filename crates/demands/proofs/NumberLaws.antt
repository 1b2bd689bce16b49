-- The numbers that papers are refused by: of what holds of each number that a field's reading refuses by, so that a paper's
-- numbers are those of its fields.
use mathlib.Core.Path.{◌≡◌, refl, subst}
use mathlib.Core.Bool.{Bool, true, false}
use mathlib.Core.List.{List, [], ◌∷◌, map, Memᴰ}
use mathlib.Core.Logic.{◌⊎◌, inl, inr}
use Prim.Native.Nat.{ℕ, zero, suc, ◌+◌, min}
use lib.ListN.{length, get_or}
use lib.Dec.{eqb, ltb, leb}
use Rattle.ground.specs.Tests.{pick}
use Rattle.ground.specs.Bytes.{little_end}
use Rattle.ground.specs.Outcome.{Outcome, next, and_more, numbered, many}
use Rattle.ground.specs.Outcome.Outcome.{good, bad}
use Rattle.ground.proofs.OutcomeLaws.{good_bad, next_bad}
use Rattle.ground.specs.declared.refusals.Reason.TheVariants.{EndsInside, WrongMark, WrongVersion, BeyondLimit, TwoDomains, SameColumn, LeftOver, NotLegal, NoKeptColumn}
use Rattle.fields.specs.Numbers.{number_at, number_that, between, under, marked, mark_at, version_at, head_of}
use Rattle.entries.specs.Places.{place, same_place, place_at}
use Rattle.entries.specs.Relations.{past_relation, column_count, column_at, relation_with, columns_then, relation_at}
use Rattle.entries.specs.Clauses.{clause, domain_of, selection_at, joined, join_at, clause_at}
use Rattle.entries.specs.declared.relations.Relation.{Relation}
use Rattle.entries.specs.declared.clauses.ClauseKind.TheVariants.{Selection, Join}
use Rattle.contents.specs.Parts.{relation_count, no_envelope, with_version, with_sizes, with_relations, with_clauses, with_targets}
use Rattle.contents.specs.Kept.{first_bare}
use Rattle.contents.specs.Sites.{holds}
use Rattle.contents.specs.declared.envelope.Envelope.{Envelope}
use Rattle.envelopes.specs.Envelope.{filled, list_into, size_at, sizes_into, relations_into, clauses_into, targets_into, CPN, ended}
use Rattle.envelopes.specs.Envelope.{targets_then, clauses_then, relations_then, sizes_then, envelope_from, read_envelope}
use Rattle.envelopes.proofs.ReadingLaws.{bare_picked}
use Rattle.paths.specs.Steps.{step}
use Rattle.paths.specs.declared.steps.Step.{Step}
use Rattle.papers.specs.Programs.{SJP, program_with, step_at, ended_program, steps_then, program_by}
use Rattle.ground.specs.declared.refusals.Reason.{Reason}
use Rattle.ground.specs.Refusals.{number_of}
use Rattle.ground.proofs.ListLaws.{map_mem}

-- a reason of a list has one of their numbers
pub numbered_lem : (n : Reason) (reasons : List Reason) → Memᴰ n reasons → Memᴰ (number_of n) (map number_of reasons)
numbered_lem n reasons listed = map_mem number_of listed

module _ (P : Reason → Type 0) where
  -- whatever number it is refused by
  abbrev pub Refuses : {A : Type 0} → Outcome A → Type 0
  Refuses o = (n : Reason) (u : ℕ) → o ≡ bad n u → P n

  taken : {A : Type 0} (v : A) (p : ℕ) → Refuses (good v p)
  taken v p n u h = absurd (good_bad v p n u h)

  refused : {A : Type 0} (k : Reason) (q : ℕ) → P k → Refuses {A = A} (bad k q)
  refused k q x n u h = let same : k ≡ n = cc in subst P same x

  picked : {A : Type 0} (t : Bool) (a b : Outcome A) → Refuses a → Refuses b → Refuses (pick t a b)
  picked true a b x y = x
  picked false a b x y = y

  chained : {A B : Type 0} (o : Outcome A) (k : A → ℕ → Outcome B) → Refuses o → ((a : A) (p : ℕ) → Refuses (k a p)) → Refuses (next o k)
  chained {A} o k x y n u h = go (next_bad o k n u h)
    where
      go : (o ≡ bad n u) ⊎ ((a : A) × (p : ℕ) × (o ≡ good a p) × (k a p ≡ bad n u)) → P n
      go (inl z) = x n u z
      go (inr (a, p, _, z)) = y a p n u z

  more : {A : Type 0} (done : List A) (o : Outcome (List A)) → Refuses o → Refuses (and_more done o)
  more done (good vs p) x n u h = absurd (good_bad _ p n u h)
  more done (bad m q) x n u h = refused m q (x m q refl) n u h

  several : {A : Type 0} (item : ℕ → ℕ → Outcome A) → ((i at : ℕ) → Refuses (item i at)) → (i n at : ℕ) → Refuses (numbered item i n at)
  unfolding numbered
  several item x i zero at = taken [] at
  several item x i (suc n) at = chained (item i at) _ (x i at) (λ v p. more (v ∷ []) (numbered item (i + 1) n p) (several item x (i + 1) n p))

  -- ---- fields

  module _ (one : P EndsInside) where
    pub number : (w : ℕ) (s : List ℕ) (at : ℕ) → Refuses (number_at w s at)
    unfolding number_at
    number w s at = picked (leb (at + w) (length s)) _ _ (taken (little_end w s at) (at + w)) (refused EndsInside at one)

    mark_number : P WrongMark → (letters s : List ℕ) (at : ℕ) → Refuses (mark_at letters s at)
    unfolding mark_at
    mark_number two letters s at =
        picked (leb (at + length letters) (length s)) _ _
        (picked (marked letters s at) _ _ (taken letters (at + length letters)) (refused WrongMark at two))
        (refused EndsInside at one)

    version_number : P WrongVersion → (newest : ℕ) (s : List ℕ) (at : ℕ) → Refuses (version_at newest s at)
    unfolding version_at
    version_number three newest s at =
        chained (number_at 2 s at) _ (number 2 s at) (λ v q. picked (between 1 newest v) _ _ (taken v q) (refused WrongVersion at three))

    pub head_number : P WrongMark → P WrongVersion → (letters : List ℕ) (newest : ℕ) (s : List ℕ) → Refuses (head_of letters newest s)
    unfolding head_of
    head_number two three letters newest s =
        chained (mark_at letters s 0) _ (mark_number two letters s 0) (λ _ p. version_number three newest s p)

  module _ (one : P EndsInside) (four : P BeyondLimit) where
    pub number_that_lem : (fits : ℕ → Bool) (w : ℕ) (s : List ℕ) (at : ℕ) → Refuses (number_that fits w s at)
    unfolding number_that
    number_that_lem fits w s at = chained (number_at w s at) _ (number one w s at) (λ v p. picked (fits v) _ _ (taken v p) (refused BeyondLimit at four))

    -- a number that passes a test, and what comes after it
    then : {B : Type 0} (fits : ℕ → Bool) (w : ℕ) (s : List ℕ) (at : ℕ) (k : ℕ → ℕ → Outcome B)
        → ((v p : ℕ) → Refuses (k v p)) → Refuses (next (number_that fits w s at) k)
    then fits w s at k x = chained (number_that fits w s at) k (number_that_lem fits w s at) x

    pub place_number : (count : ℕ) (relations : List Relation) (s : List ℕ) (at : ℕ) → Refuses (place_at count relations s at)
    unfolding place_at
    place_number count relations s at =
        then (under count) 1 s at _
        (λ r p. then (under (column_count (get_or relations r past_relation))) 1 s p _ (λ c q. taken (place r c) q))

    -- ---- entries of an envelope

    column_number : (count : ℕ) (sizes : List ℕ) (rows : ℕ) (s : List ℕ) (at : ℕ) → Refuses (column_at count sizes rows s at)
    unfolding column_at
    column_number count sizes rows s at =
        then (under count) 1 s at _
        (λ d p. then (between 1 255) 1 s p _
        (λ w q. then (between (min 1 rows) (min rows (get_or sizes d 0))) 4 s q _
        (λ n u. taken (record { domain = d; width = w; distinct = n }) u)))

    pub relation_number : (count : ℕ) (sizes s : List ℕ) (at : ℕ) → Refuses (relation_at count sizes s at)
    unfolding relation_at columns_then
    relation_number count sizes s at =
        then (between 0 7) 1 s at _
        (λ site p. then (between 1 8) 1 s p _
        (λ k q. then (between 0 1000000) 4 s q _
        (λ rows u. chained (many (column_at count sizes rows s) k u) _ (several (λ _. column_at count sizes rows s) (λ _ z. column_number count sizes rows s z) 0 k u)
        (λ columns z. taken (relation_with site k rows columns) z))))

    module _ (five : P TwoDomains) (six : P SameColumn) where
      selection_number : (count : ℕ) (relations : List Relation) (s : List ℕ) (at : ℕ) → Refuses (selection_at count relations s at)
      unfolding selection_at
      selection_number count relations s at =
          chained (place_at count relations s at) _ (place_number count relations s at)
          (λ a q. chained (number_at 4 s q) _ (number one 4 s q) (λ v u. taken (clause (Selection a v)) u))

      join_number : (count : ℕ) (relations : List Relation) (s : List ℕ) (start at : ℕ) → Refuses (join_at count relations s start at)
      unfolding join_at joined
      join_number count relations s start at =
          chained (place_at count relations s at) _ (place_number count relations s at)
          (λ a q. chained (place_at count relations s q) _ (place_number count relations s q)
          (λ b u. picked (eqb (domain_of relations a) (domain_of relations b)) _ _
          (picked (same_place a b) _ _ (refused SameColumn start six) (taken (clause (Join a b)) u))
          (refused TwoDomains start five)))

      pub clause_number : (count : ℕ) (relations : List Relation) (s : List ℕ) (at : ℕ) → Refuses (clause_at count relations s at)
      unfolding clause_at
      clause_number count relations s at =
          then (between 1 2) 1 s at _
          (λ kind p. picked (eqb kind 1) _ _ (selection_number count relations s p) (join_number count relations s at p))

      -- ---- an envelope

      list_number : {A : Type 0} (low high : ℕ) (put : List A → Envelope → Envelope) (item : ℕ → Outcome A) → ((at : ℕ) → Refuses (item at))
          → (s : List ℕ) (at : ℕ) (e : Envelope) → Refuses (list_into low high put item s at e)
      unfolding list_into filled
      list_number low high put item x s at e =
          then (between low high) 1 s at _ (λ n p. chained (many item n p) _ (several (λ _. item) (λ _ z. x z) 0 n p) (λ vs q. taken (put vs e) q))

      module _ (seven : P LeftOver) (nine : P NoKeptColumn) (s : List ℕ) where
        ended_number : (at : ℕ) (e : Envelope) → Refuses (ended s at e)
        unfolding ended
        ended_number at e =
            picked (ltb at (length s)) _ _ (refused LeftOver at seven)
            (rw (bare_picked (ltb (first_bare e) (relation_count e)) (first_bare e) e at) (picked (ltb (first_bare e) (relation_count e)) _ _ (refused NoKeptColumn (first_bare e) nine) (taken e at)))

        targets_number : (at : ℕ) (e : Envelope) → Refuses (targets_then s at e)
        unfolding targets_then
        targets_number at e =
            chained (targets_into s at e) _
            (list_number 1 16 with_targets (place_at e.relation_count e.relations s) (place_number e.relation_count e.relations s) s at e)
            (λ f p. ended_number p f)

        clauses_number : (at : ℕ) (e : Envelope) → Refuses (clauses_then s at e)
        unfolding clauses_then
        clauses_number at e =
            chained (clauses_into s at e) _
            (list_number 0 12 with_clauses (clause_at e.relation_count e.relations s) (clause_number e.relation_count e.relations s) s at e)
            (λ f p. targets_number p f)

        relations_number : (at : ℕ) (e : Envelope) → Refuses (relations_then s at e)
        unfolding relations_then
        relations_number at e =
            chained (relations_into s at e) _
            (list_number 1 8 with_relations (relation_at e.domain_count e.sizes s) (relation_number e.domain_count e.sizes s) s at e)
            (λ f p. clauses_number p f)

        sizes_number : (at : ℕ) (e : Envelope) → Refuses (sizes_then s at e)
        unfolding sizes_then
        sizes_number at e =
            chained (sizes_into s at e) _ (list_number 1 16 with_sizes (size_at s) (number_that_lem (between 1 16777215) 4 s) s at e)
            (λ f p. relations_number p f)

        pub envelope_number : P WrongMark → P WrongVersion → Refuses (read_envelope s)
        unfolding envelope_from
        envelope_number two three =
            chained (head_of CPN 1 s) _ (head_number one two three CPN 1 s) (λ v p. sizes_number p (with_version v no_envelope))

    -- ---- a program against a good envelope

    step_number : P NotLegal → (lawful : Step → Bool) (e : Envelope) (s : List ℕ) (i at : ℕ) → Refuses (step_at lawful e s i at)
    unfolding step_at
    step_number eight lawful e s i at =
        chained (place_at e.relation_count e.relations s at) _ (place_number e.relation_count e.relations s at)
        (λ a p. chained (place_at e.relation_count e.relations s p) _ (place_number e.relation_count e.relations s p)
        (λ b q. picked (lawful (step a b)) _ _ (taken (step a b) q) (refused NotLegal i eight)))

    pub program_number : P WrongMark → P WrongVersion → P LeftOver → P NotLegal → (lawful : Step → Bool) (e : Envelope) (s : List ℕ)
        → Refuses (program_by lawful e s)
    unfolding program_by steps_then ended_program
    program_number two three seven eight lawful e s =
        chained (head_of SJP 1 s) _ (head_number one two three SJP 1 s)
        (λ _ p. then (holds e) 1 s p _
        (λ site q. then (between 0 156) 1 s q _
        (λ n u. chained (numbered (step_at lawful e s) 0 n u) _ (several (step_at lawful e s) (step_number eight lawful e s) 0 n u)
        (λ steps z. picked (ltb z (length s)) _ _ (refused LeftOver z seven) (taken (program_with site steps) z)))))
