-- Papers at their limits, with what each reads as: one small envelope and its programs with every refusal that 01 gives a
-- paper, on both sides of each limit; and structs, checked as their bytes would be. Examples states that all of it holds.
use mathlib.Core.List.{List, [], ◌∷◌, ◌++◌, map}
use Prim.Native.Nat.{ℕ}
use lib.ListN.{take, replicate, set}
use Rattle.ground.specs.Figures.{Figure, figure}
use Rattle.ground.specs.Lists.{each, below}
use Rattle.ground.specs.Outcome.{Outcome}
use Rattle.ground.specs.Outcome.Outcome.{good, bad}
use Rattle.ground.specs.Refusals.{number_of}
use Rattle.entries.specs.Relations.{relation_with}
use Rattle.entries.specs.Places.{place}
use Rattle.entries.specs.Clauses.{clause}
use Rattle.contents.specs.Parts.{no_envelope, with_version, with_sizes, with_relations, with_clauses, with_targets}
use Rattle.envelopes.specs.Envelope.{read_envelope, envelope_bytes, check_envelope}
use Rattle.entries.specs.declared.places.Place.{Place}
use Rattle.entries.specs.declared.relations.Column.{Column}
use Rattle.entries.specs.declared.relations.Relation.{Relation}
use Rattle.entries.specs.declared.clauses.Clause.{Clause}
use Rattle.entries.specs.declared.clauses.ClauseKind.TheVariants.{Selection, Join}
use Rattle.contents.specs.declared.envelope.Envelope.{Envelope}
use Rattle.paths.specs.Steps.{step}
use Rattle.papers.specs.Programs.{program_with, read_program, check_program}

-- ---- how an example is written

infix 70 ◌gives◌
abbrev pub ◌gives◌ : List ℕ → List ℕ → Figure
a gives b = figure a b

-- an outcome as numbers: 0 and the position past it, or the refusal's number and position
abbrev pub seen : {A : Type 0} → Outcome A → List ℕ
seen (good v p) = 0 ∷ p ∷ []
seen (bad n p) = number_of n ∷ p ∷ []

abbrev pub taken : ℕ → List ℕ
taken p = 0 ∷ p ∷ []

abbrev pub refused : ℕ → ℕ → List ℕ
refused n p = n ∷ p ∷ []

-- a paper with one byte replaced
abbrev pub put : ℕ → ℕ → List ℕ → List ℕ
put i v s = set s i v

-- ---- the papers

abbrev pub selection : ℕ → ℕ → ℕ → Clause
selection r c v = clause (Selection (place r c) v)

abbrev pub join : ℕ → ℕ → ℕ → ℕ → Clause
join r c s d = clause (Join (place r c) (place s d))

abbrev pub column_with : ℕ → ℕ → ℕ → Column
column_with d w n = record { domain = d; width = w; distinct = n }

-- domains of 10 and 20; relation 0 at site 1 with 5 rows and a column of each domain, relation 1 at site 2 with 5 rows
-- and a column of the first; each line with the position of its first byte
abbrev pub small : List ℕ
small =
    67 ∷ 80 ∷ 78 ∷ 1 ∷ 0  -- 0: mark, version
    ∷ 2 ∷ 10 ∷ 0 ∷ 0 ∷ 0 ∷ 20 ∷ 0 ∷ 0 ∷ 0  -- 5: domains
    ∷ 2 ∷ 1 ∷ 2 ∷ 5 ∷ 0 ∷ 0 ∷ 0  -- 14: relations; the first
    ∷ 0 ∷ 1 ∷ 5 ∷ 0 ∷ 0 ∷ 0 ∷ 1 ∷ 2 ∷ 3 ∷ 0 ∷ 0 ∷ 0  -- 21: its columns
    ∷ 2 ∷ 1 ∷ 5 ∷ 0 ∷ 0 ∷ 0 ∷ 0 ∷ 4 ∷ 2 ∷ 0 ∷ 0 ∷ 0  -- 33: the second
    ∷ 1 ∷ 2 ∷ 0 ∷ 0 ∷ 1 ∷ 0  -- 45: clauses; a join
    ∷ 1 ∷ 0 ∷ 1  -- 51: targets
    ∷ []

-- an envelope of some sizes, relations, clauses and targets
abbrev pub asks : List ℕ → List Relation → List Clause → List Place → Envelope
asks sizes relations clauses targets =
    with_targets targets (with_clauses clauses (with_relations relations (with_sizes sizes (with_version 1 no_envelope))))

abbrev pub two : List Relation
two = relation_with 1 2 5 (column_with 0 1 5 ∷ column_with 1 2 3 ∷ []) ∷ relation_with 2 1 5 (column_with 0 4 2 ∷ []) ∷ []

abbrev pub small_asked : Envelope
small_asked = asks (10 ∷ 20 ∷ []) two (join 0 0 1 0 ∷ []) (place 0 1 ∷ [])

-- the longest envelope: every count and every number at its upper limit
abbrev pub largest : Envelope
largest =
    asks (replicate 16 16777215) (replicate 8 (relation_with 7 8 1000000 (replicate 8 (column_with 15 255 1000000))))
    (map (λ (r : ℕ). selection r 7 4294967295) (below 8) ++ replicate 4 (selection 0 0 4294967295)) (replicate 16 (place 7 7))

-- the two legal steps of the small one; a program at site 1
abbrev pub there : List ℕ
there = 0 ∷ 0 ∷ 1 ∷ 0 ∷ []

abbrev pub back : List ℕ
back = 1 ∷ 0 ∷ 0 ∷ 0 ∷ []

abbrev pub program : ℕ → List ℕ → List ℕ
program n steps = (83 ∷ 74 ∷ 80 ∷ 1 ∷ 0 ∷ 1 ∷ []) ++ n ∷ steps

abbrev pub repeated : ℕ → List ℕ → List ℕ
repeated n steps = each (λ (l : List ℕ). l) (replicate n steps)

abbrev pub reads : List ℕ → List ℕ
reads s = seen (read_envelope s)

abbrev pub runs : List ℕ → List ℕ
runs s = seen (read_program small_asked s)

-- ---- 1: ends inside a field: start of that field

abbrev pub ends : List Figure
ends =
    reads small gives taken 54
    ∷ reads [] gives refused 1 0
    ∷ reads (67 ∷ 88 ∷ []) gives refused 1 0
    -- every cut
    ∷ each (λ n. reads (take n small)) (below 54) gives each (refused 1) (
    0 ∷ 0 ∷ 0 ∷ 3 ∷ 3 ∷ 5 ∷ 6 ∷ 6 ∷ 6 ∷ 6 ∷ 10 ∷ 10 ∷ 10 ∷ 10 ∷ 14 ∷ 15 ∷ 16 ∷ 17 ∷ 17 ∷ 17 ∷ 17
    ∷ 21 ∷ 22 ∷ 23 ∷ 23 ∷ 23 ∷ 23 ∷ 27 ∷ 28 ∷ 29 ∷ 29 ∷ 29 ∷ 29
    ∷ 33 ∷ 34 ∷ 35 ∷ 35 ∷ 35 ∷ 35 ∷ 39 ∷ 40 ∷ 41 ∷ 41 ∷ 41 ∷ 41 ∷ 45 ∷ 46 ∷ 47 ∷ 48 ∷ 49 ∷ 50 ∷ 51 ∷ 52 ∷ 53 ∷ [])
    ∷ runs (program 1 there) gives taken 11
    ∷ each (λ n. runs (take n (program 1 there))) (below 11) gives each (refused 1) (0 ∷ 0 ∷ 0 ∷ 3 ∷ 3 ∷ 5 ∷ 6 ∷ 7 ∷ 8 ∷ 9 ∷ 10 ∷ [])
    ∷ []

-- ---- 2, 3: mark; version: start

abbrev pub heads : List Figure
heads =
    reads (put 2 110 small) gives refused 2 0
    ∷ reads (67 ∷ 80 ∷ 88 ∷ []) gives refused 2 0
    ∷ reads (put 3 7 (put 0 83 small)) gives refused 2 0
    ∷ runs (take 5 small) gives refused 2 0
    ∷ each (λ v. reads (put 3 v small)) (0 ∷ 2 ∷ 255 ∷ []) gives repeated 3 (refused 3 3)
    -- the version is one number of 16 bits
    ∷ reads (put 3 0 (put 4 1 small)) gives refused 3 3
    ∷ reads (put 4 1 small) gives refused 3 3
    ∷ reads (take 5 (put 3 2 small)) gives refused 3 3
    ∷ runs (put 3 2 (program 0 [])) gives refused 3 3
    ∷ []

-- ---- 4: a number beyond its limit or naming nothing: start

abbrev pub limits : List Figure
limits =
    -- domains 1 to 16, each of size 1 to 16,777,215
    each (λ v. reads (put 5 v small)) (0 ∷ 17 ∷ 255 ∷ []) gives repeated 3 (refused 4 5)
    ∷ reads (put 6 0 small) gives refused 4 6
    ∷ reads (put 6 255 (put 7 255 (put 8 255 small))) gives taken 54
    ∷ reads (put 6 0 (put 9 1 small)) gives refused 4 6
    ∷ reads (put 10 0 small) gives refused 4 10
    -- relations 1 to 8, sites 0 to 7, columns 1 to 8 each
    ∷ each (λ v. reads (put 14 v small)) (0 ∷ 9 ∷ []) gives repeated 2 (refused 4 14)
    ∷ each (λ v. reads (put 15 v small)) (0 ∷ 7 ∷ 8 ∷ []) gives (taken 54 ++ taken 54 ++ refused 4 15)
    ∷ each (λ v. reads (put 16 v small)) (0 ∷ 9 ∷ []) gives repeated 2 (refused 4 16)
    -- rows 0 to 1,000,000
    ∷ each (λ v. reads (put 17 v (put 18 66 (put 19 15 small)))) (64 ∷ 65 ∷ []) gives (taken 54 ++ refused 4 17)
    -- a domain that exists, width 1 to 255
    ∷ each (λ v. reads (put 21 v small)) (1 ∷ 2 ∷ []) gives (refused 5 46 ++ refused 4 21)
    ∷ each (λ v. reads (put 22 v small)) (0 ∷ 1 ∷ 255 ∷ []) gives (refused 4 22 ++ taken 54 ++ taken 54)
    -- distinct at most the rows, at most the domain size, 0 exactly when rows are 0
    ∷ each (λ v. reads (put 23 v small)) (0 ∷ 1 ∷ 5 ∷ 6 ∷ []) gives (refused 4 23 ++ taken 54 ++ taken 54 ++ refused 4 23)
    ∷ each (λ v. reads (put 17 100 (put 23 v small))) (10 ∷ 11 ∷ []) gives (taken 54 ++ refused 4 23)
    ∷ reads (put 17 0 small) gives refused 4 23
    ∷ reads (put 17 0 (put 23 0 (put 29 0 small))) gives taken 54
    -- clauses: a kind, relations and columns that exist, each judged at once
    ∷ each (λ v. reads (put 46 v small)) (0 ∷ 3 ∷ []) gives repeated 2 (refused 4 46)
    ∷ reads (put 47 2 small) gives refused 4 47
    ∷ reads (put 48 2 small) gives refused 4 48
    ∷ reads (put 49 2 small) gives refused 4 49
    ∷ reads (put 50 1 small) gives refused 4 50
    ∷ reads (take 48 (put 47 2 small)) gives refused 4 47
    -- targets 1 to 16
    ∷ each (λ v. reads (put 51 v small)) (0 ∷ 17 ∷ []) gives repeated 2 (refused 4 51)
    ∷ reads (put 52 2 small) gives refused 4 52
    ∷ reads (put 53 2 small) gives refused 4 53
    ∷ reads (take 51 small ++ 16 ∷ repeated 16 (0 ∷ 1 ∷ [])) gives taken 84
    -- 12 clauses pass, 13 give 4; a selection value is any number
    ∷ reads (take 45 small ++ 12 ∷ repeated 12 (1 ∷ 1 ∷ 0 ∷ 255 ∷ 255 ∷ 255 ∷ 255 ∷ []) ++ 1 ∷ 0 ∷ 0 ∷ []) gives taken 133
    ∷ reads (take 45 small ++ 13 ∷ repeated 13 (1 ∷ 1 ∷ 0 ∷ 255 ∷ 255 ∷ 255 ∷ 255 ∷ []) ++ 1 ∷ 0 ∷ 0 ∷ []) gives refused 4 45
    -- the assembly site must hold a relation, judged before the count
    ∷ each (λ v. runs (put 5 v (program 0 []))) (1 ∷ 2 ∷ 0 ∷ 3 ∷ 255 ∷ [])
    gives (taken 7 ++ taken 7 ++ refused 4 5 ++ refused 4 5 ++ refused 4 5)
    ∷ runs (take 6 (put 5 3 (program 0 []))) gives refused 4 5
    -- 156 steps pass, 157 give 4
    ∷ runs (program 156 (repeated 78 (there ++ back))) gives taken 631
    ∷ runs (program 157 (repeated 157 there)) gives refused 4 6
    ∷ runs (program 157 []) gives refused 4 6
    -- a step's numbers
    ∷ runs (program 1 (put 0 2 there)) gives refused 4 7
    ∷ runs (program 1 (put 1 2 there)) gives refused 4 8
    ∷ runs (program 1 (put 2 2 there)) gives refused 4 9
    ∷ runs (program 1 (put 3 1 there)) gives refused 4 10
    ∷ runs (program 1 (2 ∷ [])) gives refused 4 7
    ∷ []

-- ---- 5 to 9

abbrev pub rules : List Figure
rules =
    -- 5, 6: join of two domains, also inside a relation; of a column with itself: start of clause
    reads (put 48 1 small) gives refused 5 46
    ∷ reads (put 48 1 (put 49 0 small)) gives refused 5 46
    ∷ reads (put 49 0 small) gives refused 6 46
    -- not before the last number of the clause is whole and in range
    ∷ reads (take 50 (put 48 1 small)) gives refused 1 50
    ∷ reads (put 48 1 (put 50 1 small)) gives refused 4 50
    -- the second clause
    ∷ reads (take 45 small ++ 2 ∷ repeated 2 (2 ∷ there)) gives refused 1 56
    ∷ reads (take 45 small ++ 2 ∷ 2 ∷ there ++ 2 ∷ 0 ∷ 0 ∷ 0 ∷ 0 ∷ []) gives refused 6 51
    ∷ reads (take 45 small ++ 2 ∷ 2 ∷ there ++ 2 ∷ 0 ∷ 1 ∷ 1 ∷ 0 ∷ []) gives refused 5 51
    -- 7: bytes left over: first of them
    ∷ reads (small ++ 0 ∷ []) gives refused 7 54
    ∷ runs (program 1 there ++ 1 ∷ 2 ∷ []) gives refused 7 11
    -- 8: step not legal, off a path or within a relation: step number
    ∷ runs (program 1 (put 1 1 there)) gives refused 8 0
    ∷ runs (program 1 (0 ∷ 0 ∷ 0 ∷ 1 ∷ [])) gives refused 8 0
    ∷ runs (program 1 (0 ∷ 0 ∷ 0 ∷ 0 ∷ [])) gives refused 8 0
    ∷ runs (program 2 (there ++ put 1 1 there)) gives refused 8 1
    ∷ runs (program 156 (repeated 155 back ++ 0 ∷ 1 ∷ 1 ∷ 0 ∷ [])) gives refused 8 155
    ∷ runs (program 1 (0 ∷ 1 ∷ 1 ∷ [])) gives refused 1 10
    -- 9: relation with no kept column: its number; 7 comes first
    ∷ reads (take 45 small ++ 0 ∷ 1 ∷ 0 ∷ 1 ∷ []) gives refused 9 1
    ∷ reads (take 45 small ++ 0 ∷ 1 ∷ 1 ∷ 0 ∷ []) gives refused 9 0
    ∷ reads (take 45 small ++ 0 ∷ 1 ∷ 1 ∷ 0 ∷ 0 ∷ []) gives refused 7 49
    ∷ reads (take 45 small ++ 0 ∷ 2 ∷ 0 ∷ 1 ∷ 1 ∷ 0 ∷ []) gives taken 51
    ∷ []

-- ---- an envelope, a program, not given as bytes: as its bytes would be

-- counts and a version beside full arrays, whose other places hold what is no number of an envelope
abbrev pub stuffed : ℕ → ℕ → ℕ → ℕ → ℕ → Envelope
stuffed v ds rs cs ts =
    record {
      version = v;
      domain_count = ds;
      sizes = 10 ∷ 20 ∷ replicate 14 0;
      relation_count = rs;
      relations = two ++ replicate 6 (relation_with 9 9 9 []);
      clause_count = cs;
      clauses = join 0 0 1 0 ∷ replicate 11 (selection 9 9 9);
      target_count = ts;
      targets = place 0 1 ∷ replicate 15 (place 9 9);
    }

abbrev pub structs : List Figure
structs =
    seen (check_envelope (stuffed 1 2 2 1 1)) gives taken 54
    ∷ envelope_bytes (stuffed 1 2 2 1 1) gives small
    ∷ each (λ v. seen (check_envelope (stuffed v 2 2 1 1))) (0 ∷ 2 ∷ 257 ∷ []) gives repeated 3 (refused 3 3)
    ∷ each (λ n. seen (check_envelope (stuffed 1 n 2 1 1))) (0 ∷ 3 ∷ 17 ∷ 255 ∷ [])
    gives (refused 4 5 ++ refused 4 14 ++ refused 4 5 ++ refused 4 5)
    ∷ each (λ n. seen (check_envelope (stuffed 1 2 n 1 1))) (0 ∷ 3 ∷ 9 ∷ 255 ∷ [])
    gives (refused 4 14 ++ refused 4 45 ++ refused 4 14 ++ refused 4 14)
    ∷ each (λ n. seen (check_envelope (stuffed 1 2 2 n 1))) (2 ∷ 13 ∷ 255 ∷ []) gives (refused 4 52 ++ refused 4 45 ++ refused 4 45)
    ∷ each (λ n. seen (check_envelope (stuffed 1 2 2 1 n))) (0 ∷ 2 ∷ 17 ∷ []) gives (refused 4 51 ++ refused 4 54 ++ refused 4 51)
    -- the envelope first, then the program
    ∷ seen (read_program (stuffed 2 2 2 1 1) []) gives refused 3 3
    ∷ seen (read_program (stuffed 1 2 2 1 1) []) gives refused 1 0
    ∷ each (λ n. seen (check_program small_asked (record { site = 2; count = n; steps = replicate 156 (step (place 0 0) (place 1 0)) }))) (0 ∷ 156 ∷ 157 ∷ 255 ∷ [])
    gives (taken 7 ++ taken 631 ++ refused 4 6 ++ refused 4 6)
    ∷ seen (check_program small_asked (program_with 0 [])) gives refused 4 5
    ∷ seen (check_program small_asked (program_with 1 (step (place 0 0) (place 1 0) ∷ step (place 0 1) (place 1 0) ∷ []))) gives refused 8 1
    ∷ seen (check_program small_asked (program_with 1 (step (place 0 2) (place 1 0) ∷ []))) gives refused 4 8
    ∷ []

-- ---- same day: COUPON (number, date), WEIGH (number, date, loss), and their rows

abbrev pub days : List Clause → List Place → Envelope
days =
    asks (100 ∷ 100 ∷ 100 ∷ [])
    (relation_with 0 2 3 (column_with 0 1 3 ∷ column_with 1 1 2 ∷ []) ∷ relation_with 1 3 4 (column_with 0 1 3 ∷ column_with 1 1 2 ∷ column_with 2 1 3 ∷ []) ∷ [])

abbrev pub coupon_weigh : List ℕ
coupon_weigh =
    3 ∷ 4 ∷ 11 ∷ 20 ∷ 12 ∷ 20 ∷ 13 ∷ 21
    ∷ 11 ∷ 20 ∷ 5 ∷ 12 ∷ 20 ∷ 7 ∷ 12 ∷ 20 ∷ 7 ∷ 14 ∷ 22 ∷ 3 ∷ []
