-- An envelope that is a struct is taken exactly when it keeps the sizes and rules, and it is taken as itself.
use mathlib.Core.Path.{◌≡◌, sym, ap, ap₂, subst, ◌∙◌}
use mathlib.Core.Bool.{false}
use mathlib.Core.Logic.{◌↔◌}
use mathlib.Core.List.{List, [], ◌++◌, map, append_assoc, append-nil, append_cancel_left}
use Prim.Native.Nat.{ℕ, ◌≤◌, ◌<◌, ◌^◌}
use native.Mathlib.Omega.{arith}
use lib.ListN.{length, take, length-map}
use lib.Seq.{length-take-le}
use Rattle.ground.specs.Lists.{Every, each, empty, below}
use Rattle.ground.specs.Bytes.{bytes_of}
use Rattle.ground.specs.Outcome.Outcome.{good}
use Rattle.ground.proofs.EveryLaws.{every_map, every_take, every_back}
use Rattle.ground.proofs.ByteLaws.{number_tells, each_tells, all_tell}
use Rattle.std.specs.Prelude.{Ok}
use Rattle.fields.proofs.PutLaws.{written_back}
use Rattle.entries.specs.Relations.{columns_of, relation_bytes}
use Rattle.entries.specs.Places.{place_bytes}
use Rattle.entries.specs.Clauses.{clause_bytes}
use Rattle.contents.specs.Parts.{sizes_of, relations_of, clauses_of, targets_of}
use Rattle.contents.specs.Kept.{kept_columns}
use Rattle.envelopes.specs.Envelope.{CPN, read_envelope, envelope_bytes, check_envelope, write_envelope_of, envelope_written, envelope_written_in}
use Rattle.envelopes.specs.Rules.{Between, RelationWithin, PlaceWithin, KindWithin, ClauseWithin, Within, tidy_relation, tidy}
use Rattle.envelopes.specs.Fits.{PlaceFits, RelationFits, ClauseFits, Fits}
use Rattle.entries.specs.declared.places.Place.{Place}
use Rattle.entries.specs.declared.relations.Relation.{Relation}
use Rattle.entries.specs.declared.clauses.ClauseKind.{ClauseKind}
use Rattle.entries.specs.declared.clauses.ClauseKind.TheVariants.{Selection, Join}
use Rattle.contents.specs.declared.envelope.Envelope.{Envelope}
use Rattle.envelopes.proofs.ExactRelations.{columns_of_with}
use Rattle.envelopes.proofs.TidyLaws.{tidy_count, tidy_domain, tidy_is, tidy_sizes, tidy_relations, tidy_clauses, tidy_targets, tidy_kept_columns}
use Rattle.envelopes.proofs.ExactEnvelope.{check_sound, check_complete}
use Rattle.envelopes.proofs.ExactStructs.{place_tells, clause_tells, place_within, kind_within, relation_tells}

-- ---- what the bytes of the whole tell

-- what stands from a field on
abbrev from_targets : Envelope → List ℕ
from_targets e = each place_bytes (targets_of e) ++ []

abbrev from_target_count : Envelope → List ℕ
from_target_count e = bytes_of 1 e.target_count ++ from_targets e

abbrev from_clauses : Envelope → List ℕ
from_clauses e = each clause_bytes (clauses_of e) ++ from_target_count e

abbrev from_clause_count : Envelope → List ℕ
from_clause_count e = bytes_of 1 e.clause_count ++ from_clauses e

abbrev from_relations : Envelope → List ℕ
from_relations e = each relation_bytes (relations_of e) ++ from_clause_count e

abbrev from_relation_count : Envelope → List ℕ
from_relation_count e = bytes_of 1 e.relation_count ++ from_relations e

abbrev from_sizes : Envelope → List ℕ
from_sizes e = each (bytes_of 4) (sizes_of e) ++ from_relation_count e

abbrev from_domain_count : Envelope → List ℕ
from_domain_count e = bytes_of 1 e.domain_count ++ from_sizes e

abbrev from_version : Envelope → List ℕ
from_version e = bytes_of 2 e.version ++ from_domain_count e

bytes_from : (e : Envelope) → envelope_bytes e ≡ CPN ++ from_version e
unfolding envelope_bytes
bytes_from e = simp (append_assoc, append-nil)

record Told (e f : Envelope) : Type 0 where
  version : e.version ≡ f.version
  domains : e.domain_count ≡ f.domain_count
  sizes : sizes_of e ≡ sizes_of f
  relations : e.relation_count ≡ f.relation_count
  tidied : map tidy_relation (relations_of e) ≡ map tidy_relation (relations_of f)
  clauses : e.clause_count ≡ f.clause_count
  rules : clauses_of e ≡ clauses_of f
  targets : e.target_count ≡ f.target_count
  named : targets_of e ≡ targets_of f

told : (e f : Envelope) → Fits e → Within f → envelope_bytes e ≡ envelope_bytes f → Told e f
unfolding sizes_of relations_of clauses_of targets_of
told e f h w same =
    let e₀ : from_version e ≡ from_version f = append_cancel_left CPN (from_version e) (from_version f) (sym (bytes_from e) ∙ same ∙ bytes_from f) in
    let (v, e₁) = number_tells 2 e.version f.version (from_domain_count e) (from_domain_count f) h.version (omega (arith, w.version)) e₀ in
    let (d, e₂) = number_tells 1 e.domain_count f.domain_count (from_sizes e) (from_sizes f) h.domains (omega (arith, w.domains)) e₁ in
    let (zs, e₃) = all_tell (bytes_of 4) (λ n. n < 2 ^ 32) (λ n. n < 2 ^ 32) (number_tells 4) (sizes_of e) (sizes_of f)
    (length-take-le e.domain_count e.sizes (omega (arith, h.long_sizes, d, w.domains)) ∙ d ∙ sym w.whole_sizes)
    (from_relation_count e) (from_relation_count f) (every_take (λ n. n < 2 ^ 32) e.domain_count e.sizes h.sizes)
    (every_map (Between 1 16777215) (λ n. n < 2 ^ 32) (sizes_of f) (λ n k. omega arith) w.sizes) e₂ in
    let (r, e₄) = number_tells 1 e.relation_count f.relation_count (from_relations e) (from_relations f) h.relations (omega (arith, w.relations)) e₃ in
    let (rs, e₅) = each_tells relation_bytes RelationFits (RelationWithin (sizes_of f)) tidy_relation
    (relation_tells (sizes_of f) (omega (arith, w.whole_sizes, w.domains))) (relations_of e) (relations_of f)
    (length-take-le e.relation_count e.relations (omega (arith, h.long_relations, r, w.relations)) ∙ r ∙ sym w.whole_relations)
    (from_clause_count e) (from_clause_count f) (every_take RelationFits e.relation_count e.relations h.each) w.each e₄ in
    let few : length (relations_of f) ≤ 8 = omega (arith, w.whole_relations, w.relations) in
    let (c, e₆) = number_tells 1 e.clause_count f.clause_count (from_clauses e) (from_clauses f) h.clauses (omega (arith, w.clauses)) e₅ in
    let (cs, e₇) = all_tell clause_bytes ClauseFits ClauseFits clause_tells (clauses_of e) (clauses_of f)
    (length-take-le e.clause_count e.clauses (omega (arith, h.long_clauses, c, w.clauses)) ∙ c ∙ sym w.whole_clauses)
    (from_target_count e) (from_target_count f) (every_take ClauseFits e.clause_count e.clauses h.rules)
    (every_map (ClauseWithin (relations_of f)) ClauseFits (clauses_of f) (λ c. kind_within (relations_of f) few c.kind) w.rules) e₆ in
    let (t, e₈) = number_tells 1 e.target_count f.target_count (from_targets e) (from_targets f) h.targets (omega (arith, w.targets)) e₇ in
    let (ts, e₉) = all_tell place_bytes PlaceFits PlaceFits place_tells (targets_of e) (targets_of f)
    (length-take-le e.target_count e.targets (omega (arith, h.long_targets, t, w.targets)) ∙ t ∙ sym w.whole_targets)
    [] [] (every_take PlaceFits e.target_count e.targets h.named)
    (every_map (PlaceWithin (relations_of f)) PlaceFits (targets_of f) (place_within (relations_of f) few) w.named) e₈ in
    record { version = v; domains = d; sizes = zs; relations = r; tidied = rs; clauses = c; rules = cs; targets = t; named = ts }

told_tidy : (e f : Envelope) → Told e f → tidy e ≡ tidy f
told_tidy e f h = tidy_is e ∙ cc (h.version, h.sizes, h.tidied, h.rules, h.named) ∙ sym (tidy_is f)

-- ---- what the tidy envelope keeps, the envelope keeps

untidy_relation : (sizes : List ℕ) (r : Relation) → RelationFits r → RelationWithin sizes (tidy_relation r) → RelationWithin sizes r
unfolding tidy_relation columns_of
untidy_relation sizes r h w =
    let whole : length (columns_of r) ≡ r.column_count = length-take-le r.column_count r.columns (omega (arith, h.long, w.count)) in
    record {
      site = w.site;
      count = w.count;
      rows = w.rows;
      columns = rw (columns_of_with r.site r.column_count r.rows (columns_of r) whole) at w.columns;
      whole = whole;
    }

untidy_place : (relations : List Relation) (a : Place) → PlaceWithin (map tidy_relation relations) a → PlaceWithin relations a
untidy_place relations a w =
    record {
      relation = rw (length-map relations tidy_relation) at w.relation;
      column = rw (tidy_count relations a.relation) at w.column;
    }

untidy_kind : (sizes : List ℕ) (relations : List Relation) → Every (RelationWithin sizes) relations → (k : ClauseKind)
    → KindWithin (map tidy_relation relations) k → KindWithin relations k
untidy_kind sizes relations all (Selection a v) w = (untidy_place relations a w.0, w.1)
untidy_kind sizes relations all (Join a b) w =
    let p : PlaceWithin relations a = untidy_place relations a w.0 in
    let q : PlaceWithin relations b = untidy_place relations b w.1 in
    (p, q, sym (tidy_domain sizes relations all a p) ∙ w.2 ∙ tidy_domain sizes relations all b q, w.3)

untidy_within : (e f : Envelope) → Fits e → Within f → Told e f → f ≡ tidy e → Within e
unfolding sizes_of relations_of clauses_of targets_of
untidy_within e f h w t is =
    let u : Within (tidy e) = subst Within is w in
    let all : Every (RelationWithin (sizes_of e)) (relations_of e) =
    every_back tidy_relation RelationFits (RelationWithin (sizes_of e)) (RelationWithin (sizes_of e)) (untidy_relation (sizes_of e)) (relations_of e)
    (every_take RelationFits e.relation_count e.relations h.each) (rw (tidy_sizes e, tidy_relations e) at u.each) in
    record {
      version = t.version ∙ w.version;
      domains = rw t.domains w.domains;
      sizes = rw t.sizes w.sizes;
      relations = rw t.relations w.relations;
      each = all;
      clauses = rw t.clauses w.clauses;
      rules =
          every_map (ClauseWithin (map tidy_relation (relations_of e))) (ClauseWithin (relations_of e)) (clauses_of e)
          (λ c. untidy_kind (sizes_of e) (relations_of e) all c.kind) (rw (tidy_relations e, tidy_clauses e) at u.rules);
      targets = rw t.targets w.targets;
      named =
          every_map (PlaceWithin (map tidy_relation (relations_of e))) (PlaceWithin (relations_of e)) (targets_of e) (untidy_place (relations_of e))
          (rw (tidy_relations e, tidy_targets e) at u.named);
      kept =
          every_map (λ (r : ℕ). empty (kept_columns (tidy e) r) ≡ false) (λ (r : ℕ). empty (kept_columns e r) ≡ false)
          (below (length (relations_of e))) (λ r k. rw (tidy_kept_columns e r) at k) (rw (tidy_relations e, length-map (relations_of e) tidy_relation) at u.kept);
      whole_sizes = ap length t.sizes ∙ w.whole_sizes ∙ sym t.domains;
      whole_relations = length-take-le e.relation_count e.relations (omega (arith, h.long_relations, t.relations, w.relations));
      whole_clauses = ap length t.rules ∙ w.whole_clauses ∙ sym t.clauses;
      whole_targets = ap length t.named ∙ w.whole_targets ∙ sym t.targets;
    }

-- ---- the check

-- A struct is taken exactly when it keeps the sizes and rules, and then it is taken as itself, with zeros in the places
-- not in use.
pub check_exact : (e f : Envelope) (p : ℕ) → Fits e
    → (check_envelope e ≡ good f p) ↔ (Within e × (f ≡ tidy e) × (p ≡ length (envelope_bytes e)))
check_exact e f p h = (sound, complete)
  where
    sound : check_envelope e ≡ good f p → Within e × (f ≡ tidy e) × (p ≡ length (envelope_bytes e))
    sound c =
        let ((w, tidied), same, end) = check_sound e f p c in
        let t : Told e f = told e f h w same in
        let is : f ≡ tidy e = sym tidied ∙ sym (told_tidy e f t) in
        (untidy_within e f h w t is, is, end)

    complete : Within e × (f ≡ tidy e) × (p ≡ length (envelope_bytes e)) → check_envelope e ≡ good f p
    complete (w, is, end) = rw (is, end) (check_complete e w)

-- What the writer leaves in the buffer, as far as the length that it answers, reads as the envelope that was written.
pub envelope_written_back : (e : Envelope) → Fits e → (out : List ℕ) (n : ℕ) → envelope_written e out ≡ Ok n
    → read_envelope (take n (envelope_written_in e out)) ≡ good (tidy e) n
unfolding check_envelope write_envelope_of
envelope_written_back e fits out n w =
    let (f, q, c, long, same) = written_back (check_envelope e) (envelope_bytes e) out n w in
    let (within, is, end) = (check_exact e f q fits).0 c in
    ap read_envelope same ∙ c ∙ ap₂ good is (end ∙ sym long)
