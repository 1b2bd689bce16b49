-- An envelope with zeros in the places not in use means the same: it has the same paths, the same legal steps, the same
-- implied clauses, the same answers, and accepts the same programs.
use mathlib.Core.Path.{◌≡◌, refl, sym, ap, ◌∙◌}
use mathlib.Core.Bool.{Bool, true}
use mathlib.Core.List.{List, [], map}
use mathlib.Core.Logic.{◌↔◌}
use Prim.Native.Nat.{ℕ}
use Rattle.ground.specs.Lists.{cons_if, each, below}
use Rattle.ground.specs.Rising.{rising}
use Rattle.ground.specs.Outcome.Outcome.{good}
use Rattle.ground.proofs.ListLaws.{filter_alike, map_alike, each_alike}
use Rattle.ground.proofs.EveryLaws.{every_map, every_at}
use Rattle.entries.specs.Places.{place}
use Rattle.contents.specs.Parts.{relations_of, clauses_of, relation_count, columns_in}
use Rattle.envelopes.specs.Envelope.{check_envelope}
use Rattle.envelopes.specs.Fits.{Fits}
use Rattle.envelopes.specs.Rules.{KindWithin, ClauseWithin, Within, tidy}
use Rattle.entries.specs.declared.places.Place.{Place}
use Rattle.entries.specs.declared.clauses.Clause.{Clause}
use Rattle.entries.specs.declared.clauses.ClauseKind.{ClauseKind}
use Rattle.entries.specs.declared.clauses.ClauseKind.TheVariants.{Selection, Join}
use Rattle.contents.specs.declared.envelope.Envelope.{Envelope}
use Rattle.envelopes.proofs.TidyLaws.{tidy_clauses, tidy_targets, tidy_columns_in, tidy_relation_count, tidy_holds, tidy_domain_of}
use Rattle.envelopes.proofs.ExactChecks.{check_exact}
use Rattle.paths.specs.Paths.{Node, column, constant, Edge, edge_of, edges, linked, on_path}
use Rattle.paths.specs.Steps.{step, places, is_place, legal_by, legal, legal_steps}
use Rattle.paths.specs.Implied.{selected, constant_in, constants_of, selections_by, equalities_by, implied_selections, implied_equalities}
use Rattle.papers.specs.Programs.{steps_of, Acceptable}
use Rattle.paths.specs.Meaning.{tables_of, answer_rows}
use Rattle.paths.specs.declared.steps.Step.{Step}
use Rattle.papers.specs.declared.programs.Program.{Program}

module _ (e : Envelope) (within : Within e) where
  -- ---- paths

  tidy_edges : edges (tidy e) ≡ edges e
  unfolding edges
  tidy_edges =
      rw (tidy_clauses e)
      (map_alike (λ (c : Clause). edge_of (tidy e).relations c.kind) (λ (c : Clause). edge_of e.relations c.kind) (clauses_of e)
      (λ c m. edge c.kind (every_at (ClauseWithin (relations_of e)) (clauses_of e) within.rules m)))
    where
      edge : (k : ClauseKind) → KindWithin (relations_of e) k → edge_of (tidy e).relations k ≡ edge_of e.relations k
      edge (Selection a v) h = ap (λ (d : ℕ). record { from = column a; to = constant d v }) (tidy_domain_of e within a h.0)
      edge (Join a b) h = refl

  pub tidy_paths : on_path (tidy e) ≡ on_path e
  unfolding on_path
  tidy_paths = ap (λ (es : List Edge). λ (x y : Node). linked es x y) tidy_edges

  -- ---- steps

  tidy_is_place : (a : Place) → is_place (tidy e) a ≡ is_place e a
  unfolding is_place
  tidy_is_place a = rw (tidy_relation_count e within, tidy_columns_in e a.relation)

  pub tidy_legal : (s : Step) → legal (tidy e) s ≡ legal e s
  unfolding legal_by
  tidy_legal s = rw (tidy_is_place s.left, tidy_is_place s.right, tidy_paths)

  tidy_places : places (tidy e) ≡ places e
  unfolding places
  tidy_places =
      rw (tidy_relation_count e within)
      (each_alike (λ r. map (place r) (below (columns_in (tidy e) r))) (λ r. map (place r) (below (columns_in e r))) (below (relation_count e))
      (λ r _. rw (tidy_columns_in e r)))

  pub tidy_legal_steps : legal_steps (tidy e) ≡ legal_steps e
  unfolding legal_steps
  tidy_legal_steps =
      rw tidy_places
      (filter_alike (legal (tidy e)) (legal e) (each (λ (a : Place). map (step a) (places e)) (places e)) (λ s _. tidy_legal s))

  -- a program is acceptable for both or for neither
  pub tidy_acceptable : (p : Program) → Acceptable (tidy e) p ↔ Acceptable e p
  tidy_acceptable p = (
    λ h. record {
      site = sym (tidy_holds e within p.site) ∙ h.site;
      count = h.count;
      steps = every_map (λ (s : Step). legal (tidy e) s ≡ true) (λ (s : Step). legal e s ≡ true) (steps_of p) (λ s k. sym (tidy_legal s) ∙ k) h.steps;
      whole = h.whole;
    },
    λ h. record {
      site = tidy_holds e within p.site ∙ h.site;
      count = h.count;
      steps = every_map (λ (s : Step). legal e s ≡ true) (λ (s : Step). legal (tidy e) s ≡ true) (steps_of p) (λ s k. tidy_legal s ∙ k) h.steps;
      whole = h.whole;
    },
  )

  -- ---- implied clauses

  tidy_constants : (path : Node → Node → Bool) (x : Place) → constants_of path (tidy e) x ≡ constants_of path e x
  unfolding constants_of
  tidy_constants path x =
      rw (tidy_clauses e)
      (ap rising
      (each_alike (λ (c : Clause). constant_in path (tidy e) x c.kind) (λ (c : Clause). constant_in path e x c.kind) (clauses_of e)
      (λ c m. one c.kind (every_at (ClauseWithin (relations_of e)) (clauses_of e) within.rules m))))
    where
      one : (k : ClauseKind) → KindWithin (relations_of e) k → constant_in path (tidy e) x k ≡ constant_in path e x k
      one (Selection a v) h = ap (λ (d : ℕ). cons_if (path (column x) (constant d v)) v []) (tidy_domain_of e within a h.0)
      one (Join a b) h = refl

  pub tidy_selections : (r : ℕ) → implied_selections (tidy e) r ≡ implied_selections e r
  unfolding selections_by
  tidy_selections r =
      rw (tidy_paths, tidy_columns_in e r)
      (each_alike (λ c. map (selected c) (constants_of (on_path e) (tidy e) (place r c)))
      (λ c. map (selected c) (constants_of (on_path e) e (place r c))) (below (columns_in e r))
      (λ c _. rw (tidy_constants (on_path e) (place r c))))

  pub tidy_equalities : (r : ℕ) → implied_equalities (tidy e) r ≡ implied_equalities e r
  unfolding equalities_by
  tidy_equalities r = rw (tidy_paths, tidy_columns_in e r)

  -- ---- answers

  tidy_tables : (words : List ℕ) → tables_of (tidy e) words ≡ tables_of e words
  unfolding tables_of
  tidy_tables words =
      rw (tidy_relation_count e within, map_alike (columns_in (tidy e)) (columns_in e) (below (relation_count e)) (λ r _. tidy_columns_in e r))

  pub tidy_answer : (words : List ℕ) → answer_rows (tidy e) words ≡ answer_rows e words
  unfolding answer_rows
  tidy_answer words = rw (tidy_clauses e, tidy_targets e, tidy_tables words)

-- What a check takes means the same as the struct that was checked: the same paths, the same legal steps, the same implied
-- clauses and the same answers.
pub taken_means : (e f : Envelope) (p : ℕ) → Fits e → check_envelope e ≡ good f p
    → (on_path f ≡ on_path e) × (legal_steps f ≡ legal_steps e) × ((r : ℕ) → implied_selections f r ≡ implied_selections e r)
    × ((r : ℕ) → implied_equalities f r ≡ implied_equalities e r) × ((words : List ℕ) → answer_rows f words ≡ answer_rows e words)
taken_means e f p fits check =
    let (within, is, _) = (check_exact e f p fits).0 check in
    rw is (tidy_paths e within, tidy_legal_steps e within, tidy_selections e within, tidy_equalities e within, tidy_answer e within)
