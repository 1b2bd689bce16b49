-- The whole envelope is read exactly: what is taken keeps the sizes and rules and is the envelope that its bytes are
-- written from, and every envelope that keeps them is taken, from its bytes, as itself.
use mathlib.Core.Path.{◌≡◌, refl, sym, ap, ◌∙◌}
use mathlib.Core.List.{List, [], ◌++◌, map, append_assoc, append-nil}
use mathlib.Core.Logic.{◌↔◌}
use Prim.Native.Nat.{ℕ, ◌≤◌, ◌<◌}
use native.Mathlib.Omega.{arith}
use lib.ListN.{length}
use lib.Dec.{ltb}
use borrow.Author.Tests.{ltb-true, ltb-false}
use Rattle.ground.specs.Lists.{Every, each, padded, empty}
use Rattle.ground.specs.Bytes.{Bytes, bytes_of}
use Rattle.ground.specs.Outcome.{Outcome, next, many}
use Rattle.ground.specs.Outcome.Outcome.{good}
use Rattle.ground.proofs.EveryLaws.{every_map, every_both, map_fixed, fixed_map}
use Rattle.ground.proofs.SearchingLaws.{past_none, none_past}
use Rattle.ground.proofs.CollectingLaws.{padded_take}
use Rattle.ground.proofs.OutcomeLaws.{next_next}
use Rattle.ground.specs.declared.refusals.Reason.TheVariants.{LeftOver, NoKeptColumn}
use Rattle.fields.specs.Numbers.{number_in}
use Rattle.fields.specs.Exact.{Reads, Exact}
use Rattle.fields.proofs.ExactReading.{done, refused, picked, restated, last, whole_paper, chained}
use Rattle.fields.proofs.ExactNumbers.{in_exact, counted_exact, head_exact}
use Rattle.entries.specs.Relations.{no_relation, relation_at, relation_bytes}
use Rattle.entries.specs.Places.{no_place, place_at, place_bytes}
use Rattle.entries.specs.Clauses.{no_clause, clause_at, clause_bytes}
use Rattle.contents.specs.Parts.{sizes_of, relations_of, clauses_of, targets_of, relation_count, no_envelope, with_version, with_sizes, with_relations, with_clauses, with_targets}
use Rattle.contents.specs.Kept.{kept_columns, first_bare, lowest_bare}
use Rattle.envelopes.specs.Envelope.{CPN, filled, list_into, size_at, bare_outcome, ended, targets_then, clauses_then, relations_then, sizes_then, envelope_from, read_envelope, envelope_bytes, check_envelope}
use Rattle.envelopes.specs.Rules.{Between, RelationWithin, PlaceWithin, ClauseWithin, Within, tidy_relation, tidy}
use Rattle.entries.specs.declared.places.Place.{Place}
use Rattle.entries.specs.declared.relations.Relation.{Relation}
use Rattle.entries.specs.declared.clauses.Clause.{Clause}
use Rattle.contents.specs.declared.envelope.Envelope.{Envelope}
use Rattle.envelopes.proofs.ReadingLaws.{bare_picked}
use Rattle.envelopes.proofs.WrittenBytes.{envelope_bytes_lem}
use Rattle.envelopes.proofs.ExactPlaces.{named_exact}
use Rattle.envelopes.proofs.ExactRelations.{relation_exact}
use Rattle.envelopes.proofs.ExactClauses.{clause_exact}
use Rattle.envelopes.proofs.TidyLaws.{made, tidy_is, tidy_relations, tidy_bytes, tidy_within, tidy_tidy}

-- ---- the end

-- each relation has a kept column
bare_exact : (s : List ℕ) (at : ℕ) (e : Envelope)
    → Exact s at (bare_outcome (lowest_bare e) e at) (λ _. [])
    (λ c. (c ≡ e) × (relation_count c ≤ first_bare c))
bare_exact s at e =
    rw (bare_picked (ltb (first_bare e) (relation_count e)) (first_bare e) e at)
    (picked s at (ltb (first_bare e) (relation_count e))
    (λ b. refused s at NoKeptColumn (first_bare e) (λ c p h. less (rw h.0 at h.1) (ltb-true _ _ b)))
    (λ b. restated s at (λ _ _ _. refl) (λ c p h. (h, rw h (ltb-false (first_bare e) (relation_count e) b))) (λ c p h. h.0) (done s at e)))
  where
    less : relation_count e ≤ first_bare e → first_bare e < relation_count e → ⊥
    less h k = omega arith

ended_reads : (s : List ℕ) (at : ℕ) (e : Envelope)
    → Reads s at (ended s at e) (λ _. []) (λ c q. ((c ≡ e) × (relation_count c ≤ first_bare c)) × (length s ≤ q))
unfolding ended
ended_reads s at e = last s at LeftOver (bare_exact s at e)

-- ---- the paper

-- what the readings one after the other say of an envelope
abbrev Taken : List ℕ → Envelope → ℕ → Type 0
Taken s e q =
    ((1 ≤ e.version) × (e.version ≤ 1))
    × ((Between 1 16 (length (sizes_of e)) × Every (Between 1 16777215) (sizes_of e))
    × ((Between 1 8 (length (relations_of e)) × Every (λ (r : Relation). RelationWithin (sizes_of e) r × (tidy_relation r ≡ r)) (relations_of e))
    × ((Between 0 12 (length (clauses_of e)) × Every (ClauseWithin (relations_of e)) (clauses_of e))
    × ((Between 1 16 (length (targets_of e)) × Every (PlaceWithin (relations_of e)) (targets_of e))
    × (((e ≡ made e.version (sizes_of e) (relations_of e) (clauses_of e) (targets_of e)) × (relation_count e ≤ first_bare e)) × (length s ≤ q))))))

abbrev taken_bytes : Envelope → List ℕ
taken_bytes e =
    (CPN ++ bytes_of 2 e.version)
    ++ ((bytes_of 1 (length (sizes_of e)) ++ each (bytes_of 4) (sizes_of e))
    ++ ((bytes_of 1 (length (relations_of e)) ++ each relation_bytes (relations_of e))
    ++ ((bytes_of 1 (length (clauses_of e)) ++ each clause_bytes (clauses_of e))
    ++ ((bytes_of 1 (length (targets_of e)) ++ each place_bytes (targets_of e)) ++ []))))

-- a list of a kind, read into an envelope, and then what follows it; the whole envelope has the list as a part
list_reads : {A : Type 0} {bytes : A → List ℕ} {Fine : A → Type 0} {rest : List A → Envelope → List ℕ}
    {Good : List A → Envelope → ℕ → Type 0} (low high : ℕ) → high < 256 → (put : List A → Envelope → Envelope) (item : ℕ → Outcome A)
    (part : Envelope → List A) (s : List ℕ) (at : ℕ) (e : Envelope) (then : Envelope → ℕ → Outcome Envelope)
    → ((p : ℕ) → Exact s p (item p) bytes Fine)
    → ((vs : List A) (p : ℕ) → Between low high (length vs) × Every Fine vs → Reads s p (then (put vs e) p) (rest vs) (Good vs))
    → ((vs : List A) (c : Envelope) (q : ℕ) → Between low high (length vs) × Every Fine vs → Good vs c q → part c ≡ vs)
    → Reads s at (next (list_into low high put item s at e) then)
    (λ c. (bytes_of 1 (length (part c)) ++ each bytes (part c)) ++ rest (part c) c)
    (λ c q. (Between low high (length (part c)) × Every Fine (part c)) × Good (part c) c q)
unfolding list_into filled
list_reads {A} {bytes} {Fine} low high small put item part s at e then exact second is =
    rw together (chained s at part (counted_exact low high small s item bytes Fine exact at) second is)
  where
    count : Outcome ℕ
    count = number_in 1 low high s at

    into : List A → ℕ → Outcome Envelope
    into vs q = good (put vs e) q

    together : next (next count (λ n p. next (many item n p) into)) then
        ≡ next (next count (λ n p. many item n p)) (λ vs q. then (put vs e) q)
    together =
        ap (λ (o : Outcome Envelope). next o then) (sym (next_next count (λ n p. many item n p) into))
        ∙ next_next (next count (λ n p. many item n p)) into then

taken_reads : (s : List ℕ) → Reads s 0 (read_envelope s) taken_bytes (Taken s)
unfolding envelope_from sizes_then relations_then clauses_then targets_then with_version with_sizes with_relations with_clauses with_targets sizes_of relations_of clauses_of targets_of
taken_reads s =
    chained s 0 (λ e. e.version) (head_exact CPN 1 (omega arith) s)
    (λ v p _. list_reads 1 16 (omega arith) with_sizes (size_at s) sizes_of s p (with_version v no_envelope) (λ e q. relations_then s q e)
    (λ at. in_exact 4 s at 1 16777215 (omega arith))
    (λ zs q fz. list_reads 1 8 (omega arith) with_relations (relation_at (length zs) (padded 16 0 zs) s) relations_of s q
    (with_sizes zs (with_version v no_envelope)) (λ e u. clauses_then s u e) (relation_exact 16 zs (omega arith) s)
    (λ rs u fr. list_reads 0 12 (omega arith) with_clauses (clause_at (length rs) (padded 8 no_relation rs) s) clauses_of s u
    (with_relations rs (with_sizes zs (with_version v no_envelope))) (λ e z. targets_then s z e) (clause_exact 8 rs (omega arith) s)
    (λ cs z _. list_reads 1 16 (omega arith) with_targets (place_at (length rs) (padded 8 no_relation rs) s) targets_of s z
    (with_clauses cs (with_relations rs (with_sizes zs (with_version v no_envelope)))) (λ e y. ended s y e) (named_exact 8 rs (omega arith) s)
    (λ ts y _. ended_reads s y (made v zs rs cs ts))
    (λ ts e q _ h. ap targets_of h.0.0 ∙ padded_take 16 no_place ts))
    (λ cs e q _ h. ap clauses_of h.1.0.0 ∙ padded_take 12 no_clause cs))
    (λ rs e q _ h. ap relations_of h.1.1.0.0 ∙ padded_take 8 no_relation rs))
    (λ zs e q _ h. ap sizes_of h.1.1.1.0.0 ∙ padded_take 16 0 zs))
    (λ v e q _ h. ap (λ (x : Envelope). x.version) h.1.1.1.1.0.0)

-- the counts of an envelope that is made of its parts
counts : (e : Envelope) → e ≡ made e.version (sizes_of e) (relations_of e) (clauses_of e) (targets_of e)
    → (e.domain_count ≡ length (sizes_of e)) × (e.relation_count ≡ length (relations_of e))
    × (e.clause_count ≡ length (clauses_of e)) × (e.target_count ≡ length (targets_of e))
unfolding with_version with_sizes with_relations with_clauses with_targets
counts e h = (
  ap (λ (x : Envelope). x.domain_count) h,
  ap (λ (x : Envelope). x.relation_count) h,
  ap (λ (x : Envelope). x.clause_count) h,
  ap (λ (x : Envelope). x.target_count) h,
)

-- the bytes by the counts and what they count
laid : ℕ → ℕ → List ℕ → ℕ → List Relation → ℕ → List Clause → ℕ → List Place → List ℕ
laid v d zs r rs c cs t ts =
    (CPN ++ bytes_of 2 v)
    ++ ((bytes_of 1 d ++ each (bytes_of 4) zs)
    ++ ((bytes_of 1 r ++ each relation_bytes rs) ++ ((bytes_of 1 c ++ each clause_bytes cs) ++ ((bytes_of 1 t ++ each place_bytes ts) ++ []))))

envelope_laid : (e : Envelope)
    → envelope_bytes e
    ≡ laid e.version e.domain_count (sizes_of e) e.relation_count (relations_of e) e.clause_count (clauses_of e) e.target_count (targets_of e)
unfolding envelope_bytes laid
envelope_laid e = simp (append_assoc, append-nil)

taken_laid : (e : Envelope)
    → laid e.version (length (sizes_of e)) (sizes_of e) (length (relations_of e)) (relations_of e) (length (clauses_of e)) (clauses_of e) (length (targets_of e)) (targets_of e)
    ≡ taken_bytes e
unfolding laid
taken_laid e = refl

taken_bytes_lem : (s : List ℕ) (e : Envelope) (q : ℕ) → Taken s e q → envelope_bytes e ≡ taken_bytes e
taken_bytes_lem s e q (_, (_, (_, (_, (_, ((parts, _), _)))))) =
    let (zs, rs, cs, ts) = counts e parts in
    envelope_laid e ∙ cc (zs, rs, cs, ts) ∙ taken_laid e

taken_within : (s : List ℕ) (e : Envelope) (q : ℕ) → Taken s e q → (Within e × (tidy e ≡ e)) × (length s ≤ q)
unfolding first_bare
taken_within s e q (version, ((domains, sizes), ((relations, both), ((clauses, rules), ((targets, named), ((parts, kept), long)))))) =
    let (zs, rs, cs, ts) = counts e parts in
    let all : relation_count e ≡ length (relations_of e) = omega (arith, relations) in
    let Fine : Relation → Type 0 = λ (r : Relation). RelationWithin (sizes_of e) r × (tidy_relation r ≡ r) in
    let fixed : map tidy_relation (relations_of e) ≡ relations_of e =
    map_fixed tidy_relation (relations_of e) (every_map Fine (λ (r : Relation). tidy_relation r ≡ r) (relations_of e) (λ r k. k.1) both) in
    let within : Within e =
    record {
      version = omega (arith, version);
      domains = rw zs domains;
      sizes = sizes;
      relations = rw rs relations;
      each = every_map Fine (RelationWithin (sizes_of e)) (relations_of e) (λ r k. k.0) both;
      clauses = rw cs clauses.1;
      rules = rules;
      targets = rw ts targets;
      named = named;
      kept = rw all at (past_none (λ r. empty (kept_columns e r)) 0 (relation_count e) (omega (arith, kept)));
      whole_sizes = sym zs;
      whole_relations = sym rs;
      whole_clauses = sym cs;
      whole_targets = sym ts;
    } in
    let tidied : tidy e ≡ e =
    tidy_is e ∙ ap (λ (l : List Relation). made e.version (sizes_of e) l (clauses_of e) (targets_of e)) fixed ∙ sym parts in
    ((within, tidied), long)

within_taken : (s : List ℕ) (e : Envelope) (q : ℕ) → (Within e × (tidy e ≡ e)) × (length s ≤ q) → Taken s e q
unfolding first_bare
within_taken s e q ((w, tidied), long) =
    let fixed : map tidy_relation (relations_of e) ≡ relations_of e = sym (tidy_relations e) ∙ ap relations_of tidied in
    let all : length (relations_of e) ≡ relation_count e = w.whole_relations ∙ omega (arith, w.relations) in
    let both : Every (λ (r : Relation). RelationWithin (sizes_of e) r × (tidy_relation r ≡ r)) (relations_of e) =
    every_both (RelationWithin (sizes_of e)) (λ (r : Relation). tidy_relation r ≡ r) (relations_of e) w.each
    (fixed_map tidy_relation (relations_of e) fixed) in
    let parts : e ≡ made e.version (sizes_of e) (relations_of e) (clauses_of e) (targets_of e) =
    sym tidied ∙ tidy_is e ∙ ap (λ (l : List Relation). made e.version (sizes_of e) l (clauses_of e) (targets_of e)) fixed in
    let kept : relation_count e ≤ first_bare e =
    omega (arith, none_past (λ r. empty (kept_columns e r)) 0 (relation_count e) (rw all at w.kept)) in
    let domains : Between 1 16 (length (sizes_of e)) = rw w.whole_sizes w.domains in
    let relations : Between 1 8 (length (relations_of e)) = rw w.whole_relations w.relations in
    let clauses : Between 0 12 (length (clauses_of e)) = (omega arith, rw w.whole_clauses w.clauses) in
    let targets : Between 1 16 (length (targets_of e)) = rw w.whole_targets w.targets in
    (omega (arith, w.version), ((domains, w.sizes), ((relations, both), ((clauses, w.rules), ((targets, w.named), ((parts, kept), long))))))

envelope_reads : (s : List ℕ) → Reads s 0 (read_envelope s) envelope_bytes (λ e q. (Within e × (tidy e ≡ e)) × (length s ≤ q))
envelope_reads s = restated s 0 (taken_bytes_lem s) (taken_within s) (within_taken s) (taken_reads s)

-- ---- an envelope and its bytes

-- Bytes are taken as an envelope exactly when the envelope keeps the sizes and rules, has zeros in the places not in use,
-- and is written as these very bytes, all of them.
pub envelope_exact : (s : List ℕ) (e : Envelope) (p : ℕ) → Bytes s
    → (read_envelope s ≡ good e p) ↔ ((Within e × (tidy e ≡ e)) × (s ≡ envelope_bytes e) × (p ≡ length s))
envelope_exact s e p all = whole_paper s (envelope_reads s) e p all

-- An envelope that keeps the sizes and rules is taken from its bytes as itself, with zeros in the places not in use.
pub envelope_complete : (e : Envelope) → Within e → read_envelope (envelope_bytes e) ≡ good (tidy e) (length (envelope_bytes e))
envelope_complete e within =
    rw (tidy_bytes e within) at
    ((envelope_exact (envelope_bytes (tidy e)) (tidy e) (length (envelope_bytes (tidy e))) (envelope_bytes_lem (tidy e))).1
    ((tidy_within e within, tidy_tidy e within), refl, refl))

-- ---- an envelope that is not given as bytes

-- what the check takes keeps the rules, and has the same bytes
pub check_sound : (e f : Envelope) (p : ℕ) → check_envelope e ≡ good f p
    → (Within f × (tidy f ≡ f)) × (envelope_bytes e ≡ envelope_bytes f) × (p ≡ length (envelope_bytes e))
unfolding check_envelope
check_sound e f p h = (envelope_exact (envelope_bytes e) f p (envelope_bytes_lem e)).0 h

pub check_complete : (e : Envelope) → Within e → check_envelope e ≡ good (tidy e) (length (envelope_bytes e))
unfolding check_envelope
check_complete e within = envelope_complete e within

-- what was read, and what a check took, is taken again as it is
pub check_read : (s : List ℕ) (e : Envelope) (p : ℕ) → Bytes s → read_envelope s ≡ good e p → check_envelope e ≡ good e p
unfolding check_envelope
check_read s e p all h = rw ((envelope_exact s e p all).0 h).1 at h
