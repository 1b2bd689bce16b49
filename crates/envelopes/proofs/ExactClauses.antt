-- Clauses are read exactly as they are written.
use mathlib.Core.Path.{◌≡◌, refl, sym, ap, ◌∙◌}
use mathlib.Core.Bool.{false, true≢false}
use mathlib.Core.List.{List, [], ◌++◌, append_assoc, append-nil}
use Prim.Native.Nat.{ℕ, ◌≤◌, ◌<◌, ◌^◌}
use native.Mathlib.Omega.{arith}
use lib.ListN.{length, get_or}
use lib.Dec.{eqb}
use borrow.Author.Tests.{eqb-true, eqb-false}
use Rattle.ground.specs.Tests.{pick}
use Rattle.ground.specs.Lists.{padded}
use Rattle.ground.specs.Bytes.{bytes_of}
use Rattle.ground.proofs.CollectingLaws.{padded_inside}
use Rattle.ground.specs.declared.refusals.Reason.TheVariants.{TwoDomains, SameColumn}
use Rattle.fields.specs.Exact.{Exact}
use Rattle.fields.proofs.ExactReading.{chained, done, refused, picked, restated}
use Rattle.fields.proofs.ExactNumbers.{number_exact, in_exact}
use Rattle.entries.specs.Relations.{no_relation, past_relation, no_column}
use Rattle.entries.specs.Places.{no_place, same_place, place_bytes}
use Rattle.entries.specs.Clauses.{clause, domain_of, selection_at, joined, join_at, clause_at, kind_bytes, clause_bytes}
use Rattle.envelopes.specs.Rules.{PlaceWithin, KindWithin, ClauseWithin}
use Rattle.entries.specs.declared.places.Place.{Place}
use Rattle.entries.specs.declared.relations.Relation.{Relation}
use Rattle.entries.specs.declared.clauses.Clause.{Clause}
use Rattle.entries.specs.declared.clauses.ClauseKind.{ClauseKind}
use Rattle.entries.specs.declared.clauses.ClauseKind.TheVariants.{Selection, Join}
use Rattle.envelopes.proofs.ExactPlaces.{named_exact}

-- ---- the parts of a clause: its byte, its first column, a join's second, a selection's value; the bytes behind the first

abbrev number : ClauseKind → ℕ
number (Selection a v) = 1
number (Join a b) = 2

abbrev first : ClauseKind → Place
first (Selection a v) = a
first (Join a b) = a

abbrev second : ClauseKind → Place
second (Selection a v) = no_place
second (Join a b) = b

abbrev value : ClauseKind → ℕ
value (Selection a v) = v
value (Join a b) = 0

abbrev behind : ClauseKind → List ℕ
behind (Selection a v) = place_bytes a ++ bytes_of 4 v
behind (Join a b) = place_bytes a ++ place_bytes b

kind_bytes_lem : (k : ClauseKind) → kind_bytes k ≡ bytes_of 1 (number k) ++ behind k
unfolding kind_bytes
kind_bytes_lem (Selection a v) = append_assoc (bytes_of 1 1) (place_bytes a) (bytes_of 4 v)
kind_bytes_lem (Join a b) = append_assoc (bytes_of 1 2) (place_bytes a) (place_bytes b)

pub domain_padded : (size : ℕ) (relations : List Relation) (a : Place) → PlaceWithin relations a
    → domain_of (padded size no_relation relations) a ≡ domain_of relations a
unfolding domain_of
domain_padded size relations a h =
    ap (λ (r : Relation). (get_or r.columns a.column no_column).domain)
    (padded_inside size no_relation relations a.relation past_relation h.relation)

module _ (size : ℕ) (relations : List Relation) (small : length relations ≤ 256) (s : List ℕ) where
  -- a clause within, of one of the two kinds
  abbrev Of : ℕ → Clause → Type 0
  Of n c = KindWithin relations c.kind × (number c.kind ≡ n)

  selection_exact : (at : ℕ) → Exact s at (selection_at (length relations) (padded size no_relation relations) s at) (λ c. behind c.kind) (Of 1)
  unfolding selection_at
  selection_exact at =
      restated s at (λ c _ h. same c.kind h.1.1) (λ c _ h. there c.kind h) (λ c _ h. back c.kind h)
      (chained s at (λ c. first c.kind) (named_exact size relations small s at)
      (λ a p _. chained s p (λ c. value c.kind) (number_exact 4 s p)
      (λ v q _. done s q (clause (Selection a v)))
      (λ v c q _ e. ap (λ (x : Clause). value x.kind) e))
      (λ a c q _ h. ap (λ (x : Clause). first x.kind) h.1))
    where
      Read : ClauseKind → Type 0
      Read k = PlaceWithin relations (first k) × ((value k < 256 ^ 4) × (clause k ≡ clause (Selection (first k) (value k))))

      same : (k : ClauseKind) → clause k ≡ clause (Selection (first k) (value k)) → behind k ≡ place_bytes (first k) ++ (bytes_of 4 (value k) ++ [])
      same k e = ap (λ (c : Clause). behind c.kind) e ∙ simp append-nil

      there : (k : ClauseKind) → Read k → KindWithin relations k × (number k ≡ 1)
      there (Selection a v) h = ((h.0, h.1.0), refl)
      there (Join a b) h = absurd (omega (arith, ap (λ (c : Clause). number c.kind) h.1.1))

      back : (k : ClauseKind) → KindWithin relations k × (number k ≡ 1) → Read k
      back (Selection a v) h = (h.0.0, (h.0.1, refl))
      back (Join a b) h = absurd (omega (arith, h.1))

  -- two columns of one domain that are not the same
  joined_exact : (start at : ℕ) (a b : Place) → PlaceWithin relations a → PlaceWithin relations b
      → Exact s at (joined (padded size no_relation relations) start a b at) (λ _. [])
      (λ c. (domain_of relations a ≡ domain_of relations b) × (same_place a b ≡ false) × (c ≡ clause (Join a b)))
  unfolding joined
  joined_exact start at a b ha hb =
      rw (domain_padded size relations a ha, domain_padded size relations b hb)
      (picked s at (eqb (domain_of relations a) (domain_of relations b))
      (λ d. picked s at (same_place a b)
      (λ e. refused s at SameColumn start (λ c p h. true≢false (sym e ∙ h.1)))
      (λ e. restated s at (λ _ _ _. refl) (λ c p h. (eqb-true _ _ d, e, h)) (λ c p h. h.2) (done s at (clause (Join a b)))))
      (λ d. refused s at TwoDomains start (λ c p h. eqb-false _ _ d h.0)))

  join_exact : (start at : ℕ)
      → Exact s at (join_at (length relations) (padded size no_relation relations) s start at) (λ c. behind c.kind) (Of 2)
  unfolding join_at
  join_exact start at =
      restated s at (λ c _ h. same c.kind h.1.1.2) (λ c _ h. there c.kind h) (λ c _ h. back c.kind h)
      (chained s at (λ c. first c.kind) (named_exact size relations small s at)
      (λ a p ha. chained s p (λ c. second c.kind) (named_exact size relations small s p)
      (λ b q hb. joined_exact start q a b ha hb)
      (λ b c q _ h. ap (λ (x : Clause). second x.kind) h.2))
      (λ a c q _ h. ap (λ (x : Clause). first x.kind) h.1.2))
    where
      Read : ClauseKind → Type 0
      Read k =
          PlaceWithin relations (first k)
          × (PlaceWithin relations (second k)
          × ((domain_of relations (first k) ≡ domain_of relations (second k)) × (same_place (first k) (second k) ≡ false)
          × (clause k ≡ clause (Join (first k) (second k)))))

      same : (k : ClauseKind) → clause k ≡ clause (Join (first k) (second k)) → behind k ≡ place_bytes (first k) ++ (place_bytes (second k) ++ [])
      same k e = ap (λ (c : Clause). behind c.kind) e ∙ simp append-nil

      there : (k : ClauseKind) → Read k → KindWithin relations k × (number k ≡ 2)
      there (Selection a v) h = absurd (omega (arith, ap (λ (c : Clause). number c.kind) h.1.1.2))
      there (Join a b) h = ((h.0, h.1.0, h.1.1.0, h.1.1.1), refl)

      back : (k : ClauseKind) → KindWithin relations k × (number k ≡ 2) → Read k
      back (Selection a v) h = absurd (omega (arith, h.1))
      back (Join a b) h = (h.0.0, (h.0.1, (h.0.2, h.0.3, refl)))

  -- a selection behind byte 1, a join behind byte 2
  either_exact : (start n at : ℕ) → (1 ≤ n) × (n ≤ 2)
      → Exact s at
      (pick (eqb n 1) (selection_at (length relations) (padded size no_relation relations) s at)
      (join_at (length relations) (padded size no_relation relations) s start at))
      (λ c. behind c.kind) (Of n)
  either_exact start n at h =
      picked s at (eqb n 1)
      (λ e. rw (eqb-true n 1 e) (selection_exact at))
      (λ e. rw (two (eqb-false n 1 e)) (join_exact start at))
    where
      two : (n ≡ 1 → ⊥) → n ≡ 2
      two other = omega arith

  pub clause_exact : (at : ℕ) → Exact s at (clause_at (length relations) (padded size no_relation relations) s at) clause_bytes (ClauseWithin relations)
  unfolding clause_at
  clause_exact at =
      restated s at (λ c _ _. kind_bytes_lem c.kind) (λ c _ h. h.1.0) (λ c _ h. (known c.kind, (h, refl)))
      (chained s at (λ c. number c.kind) (in_exact 1 s at 1 2 (omega arith)) (λ n p h. either_exact at n p h) (λ n c q _ h. h.1))
    where
      known : (k : ClauseKind) → (1 ≤ number k) × (number k ≤ 2)
      known (Selection a v) = omega arith
      known (Join a b) = omega arith
