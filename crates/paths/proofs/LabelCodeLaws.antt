-- The laws that the code of labels goes by: what each return answers, and what holds at the heads of its loops.
use mathlib.Core.Path.{◌≡◌, sym, ap, ◌∙◌}
use mathlib.Core.Bool.{Bool, not}
use mathlib.Core.List.{List, map, map-id}
use Prim.Native.Nat.{ℕ, suc, ◌+◌, ◌-◌, ◌<◌, ◌≤◌, min}
use native.Mathlib.Omega.{arith}
use lib.Dec.{eqb}
use lib.ListN.{length, get_or, take, drop, length-take, drop_of_length-le}
use lib.Seq.{drop-cons}
use Rattle.std.specs.Prelude.{Option, unwrap_or, position}
use Rattle.std.specs.List.{position_or_len}
use Rattle.std.proofs.lemmas.List.Sums.{prefix_len-le-length}
use Rattle.ground.specs.Tests.{pick}
use Rattle.ground.specs.Lists.{below}
use Rattle.ground.specs.Searching.{first_from}
use Rattle.ground.proofs.MirrorLaws.{place_is, place_or}
use Rattle.ground.proofs.UsedLaws.{used_least}
use Rattle.entries.specs.Clauses.{no_clause}
use Rattle.contents.specs.Parts.{clauses_of}
use Rattle.entries.specs.declared.clauses.Clause.{Clause}
use Rattle.entries.specs.declared.clauses.ClauseKind.{ClauseKind}
use Rattle.contents.specs.declared.envelope.Envelope.{Envelope}
use Rattle.paths.specs.Paths.{constant, Edge, edge_of}
use Rattle.paths.specs.Labels.{selects, number_of, united, labelled}

-- ---- the number of a constant

abbrev selecting : Envelope → ℕ → ℕ → Clause → Bool
selecting e d v = λ (c : Clause). selects e.relations d v c.kind

module _ (e : Envelope) (d v : ℕ) (clauses : List Clause) (f : clauses ≡ clauses_of e) (o : Option ℕ)
    (g : o ≡ position (selecting e d v) clauses) (n : ℕ) (u : n ≡ unwrap_or o (length clauses)) where
  placed : n ≡ position_or_len (selecting e d v) (clauses_of e)
  placed = u ∙ rw (g, f) (place_or (selecting e d v) (clauses_of e))

  pub constant_few : n ≤ length e.clauses
  unfolding clauses_of
  constant_few =
      omega (arith, placed, prefix_len-le-length (λ (c : Clause). not (selecting e d v c)) (clauses_of e), length-take e.clause_count e.clauses)

  pub constant_place : length e.clauses ≡ 12 → 64 + n ≡ number_of e (constant d v)
  unfolding number_of clauses_of
  constant_place long =
      let all : take (min 12 e.clause_count) e.clauses ≡ clauses_of e = used_least e.clauses 12 e.clause_count long in
      let at : position_or_len (selecting e d v) (clauses_of e)
      ≡ first_from (λ i. selecting e d v (get_or e.clauses i no_clause)) 0 (min 12 e.clause_count) =
      ap (position_or_len (selecting e d v)) (sym all)
      ∙ place_is (selecting e d v) no_clause e.clauses (min 12 e.clause_count) (omega (arith, long)) in
      ap (λ (k : ℕ). 64 + k) (placed ∙ at)

-- ---- labels

-- a label a becomes b
abbrev pub renamed : ℕ → ℕ → ℕ → ℕ
renamed a b = λ (x : ℕ). pick (eqb x a) b x

-- ---- edge by edge, the last first

abbrev edge_at : Envelope → Clause → Edge
edge_at e = λ (c : Clause). edge_of e.relations c.kind

abbrev pub united_along : Envelope → ClauseKind → List ℕ → List ℕ
united_along e k l = united (number_of e (edge_of e.relations k).from) (number_of e (edge_of e.relations k).to) l

-- of the edges of the clauses those from i on are done
abbrev pub Labelling : Envelope → List Clause → ℕ → List ℕ → Type 0
Labelling e clauses i labels = labels ≡ labelled e (map (edge_at e) (drop i clauses))

module _ (e : Envelope) (clauses : List Clause) where
  pub labelling_start : (i : ℕ) (labels : List ℕ) → i ≡ length clauses → labels ≡ map (λ k. k) (below 76) → Labelling e clauses i labels
  unfolding labelled
  labelling_start i labels g u = rw (drop_of_length-le clauses {i = i} (omega arith)) (u ∙ map-id (below 76))

  pub labelling_more : (i : ℕ) (labels : List ℕ) (d : Clause) → Labelling e clauses i labels → 0 < i → i ≤ length clauses → (labels' : List ℕ)
      → labels' ≡ united_along e (get_or clauses (i - 1) d).kind labels → Labelling e clauses (i - 1) labels'
  unfolding labelled
  labelling_more i labels d l t h labels' u =
      let next : drop (suc (i - 1)) clauses ≡ drop i clauses = let s : suc (i - 1) ≡ i = omega arith in rw s in
      u ∙ rw (drop-cons clauses (i - 1) d (omega arith), next, ← l)
