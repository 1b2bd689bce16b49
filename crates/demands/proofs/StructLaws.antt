-- Papers that are structs, and so written in full, are never refused by 1, 2 or 7: what is read of them is what was written, field
-- by field, as far as a number that is beyond its limit.
use mathlib.Core.Path.{◌≡◌, refl, sym, subst}
use mathlib.Core.Bool.{Bool, true, false}
use mathlib.Core.List.{List, [], ◌∷◌, ◌++◌, append_assoc, append-nil}
use mathlib.Core.Logic.{◌⊎◌, inl, inr}
use Prim.Native.Nat.{ℕ, ◌+◌, ◌^◌, ◌≤◌, ◌<◌, min}
use native.Mathlib.Omega.{arith}
use lib.ListN.{length, get_or}
use lib.Seq.{length-take-le}
use lib.Dec.{eqb}
use lib.ListN.{length-append}
use Rattle.ground.specs.Tests.{pick}
use Rattle.ground.specs.Lists.{Every, each}
use Rattle.ground.specs.Bytes.{bytes_of, Stands}
use Rattle.ground.specs.Outcome.{Outcome, next, and_more, numbered}
use Rattle.ground.specs.Outcome.Outcome.{good, bad}
use Rattle.ground.proofs.OutcomeLaws.{good_bad, next_good, next_bad}
use Rattle.ground.proofs.EveryLaws.{every_take}
use Rattle.ground.proofs.ByteLaws.{stands_left, stands_right, stands_inside, bytes_length}
use Rattle.ground.specs.declared.refusals.Reason.TheVariants.{BeyondLimit, TwoDomains, SameColumn}
use Rattle.fields.specs.Numbers.{number_at, number_that, under, between}
use Rattle.fields.proofs.NumberLaws.{between_true}
use Rattle.fields.proofs.ExactNumbers.{number_exact}
use Rattle.entries.specs.Places.{place, same_place, place_at, place_bytes}
use Rattle.entries.specs.Relations.{past_relation, column_count, columns_of, column_at, column_bytes, relation_with, columns_then, relation_at, relation_bytes}
use Rattle.entries.specs.Clauses.{clause, domain_of, selection_at, joined, join_at, clause_at, kind_bytes}
use Rattle.entries.specs.declared.relations.Column.{Column}
use Rattle.entries.specs.declared.clauses.ClauseKind.{ClauseKind}
use Rattle.entries.specs.declared.clauses.ClauseKind.TheVariants.{Selection, Join}
use Rattle.entries.specs.declared.places.Place.{Place}
use Rattle.entries.specs.declared.relations.Relation.{Relation}
use Rattle.envelopes.specs.Fits.{PlaceFits, ColumnFits, RelationFits, KindFits}
use Rattle.ground.specs.declared.refusals.Reason.{Reason}

-- a relation's array is as long as its count asks, and each column of it fits
columns_whole : (r : Relation) → RelationFits r → r.column_count ≤ 8 → length (columns_of r) ≡ r.column_count
unfolding columns_of
columns_whole r f few = length-take-le r.column_count r.columns (omega (arith, f.long))

columns_fit : (r : Relation) → RelationFits r → Every ColumnFits (columns_of r)
unfolding columns_of
columns_fit r f = every_take ColumnFits r.column_count r.columns f.columns

module _ (P : Reason → Type 0) (s : List ℕ) where
  -- read from at on, over some written bytes: refused as P says, and where it is taken it ends where they end
  pub record Over {A : Type 0} (at : ℕ) (o : Outcome A) (w : List ℕ) : Type 0 where
    pub refuses : (n : Reason) (u : ℕ) → o ≡ bad n u → P n
    pub ends : (v : A) (p : ℕ) → o ≡ good v p → p ≡ at + length w

  pub over_done : {A : Type 0} (at : ℕ) (v : A) → Over at (good v at) []
  over_done at v = record { refuses = λ n u h. absurd (good_bad v at n u h); ends = λ x p h. let same : at ≡ p = cc in omega (arith, same) }

  pub over_bad : {A : Type 0} (at : ℕ) (k : Reason) (q : ℕ) (w : List ℕ) → P k → Over {A = A} at (bad k q) w
  over_bad at k q w x =
      record {
        refuses = λ n u h. let same : k ≡ n = cc in subst P same x;
        ends = λ v p h. absurd (good_bad v p k q (sym h));
      }

  pub over_restated : {A : Type 0} (at : ℕ) (o : Outcome A) (w v : List ℕ) → w ≡ v → Stands v s at → (Stands w s at → Over at o w) → Over at o v
  over_restated at o w v same stands x = subst (λ (l : List ℕ). Over at o l) same (x (subst (λ (l : List ℕ). Stands l s at) (sym same) stands))

  pub over_pick : {A : Type 0} (at : ℕ) (t : Bool) (a b : Outcome A) (w : List ℕ) → Over at a w → Over at b w → Over at (pick t a b) w
  over_pick at true a b w x y = x
  over_pick at false a b w x y = y

  -- one thing, and what comes after it
  pub over_chain : {A B : Type 0} (at : ℕ) (o : Outcome A) (k : A → ℕ → Outcome B) (u w : List ℕ) → Stands (u ++ w) s at
      → (Stands u s at → Over at o u) → ((a : A) → Stands w s (at + length u) → Over (at + length u) (k a (at + length u)) w)
      → Over at (next o k) (u ++ w)
  over_chain {A} {B} at o k u w stands first second =
      record {
        refuses = λ n v h. no n v (next_bad o k n v h);
        ends = λ b q h.
            let (a, p, is, z) = next_good o k b q h in
            let there : p ≡ at + length u = one.ends a p is in
            let end : q ≡ at + length u + length w = (two a).ends b q (rw there at z) in
            omega (arith, end, length-append u w);
      }
    where
      one : Over at o u
      one = first (stands_left u w s at stands)

      two : (a : A) → Over (at + length u) (k a (at + length u)) w
      two a = second a (stands_right u w s at stands)

      no : (n : Reason) (v : ℕ) → (o ≡ bad n v) ⊎ ((a : A) × (p : ℕ) × (o ≡ good a p) × (k a p ≡ bad n v)) → P n
      no n v (inl z) = one.refuses n v z
      no n v (inr (a, p, is, z)) = let there : p ≡ at + length u = one.ends a p is in (two a).refuses n v (rw there at z)

  -- several
  over_more : {A : Type 0} (at : ℕ) (done : List A) (o : Outcome (List A)) (w : List ℕ) → Over at o w → Over at (and_more done o) w
  over_more at done (good vs p) w x = record { refuses = λ n u h. absurd (good_bad _ p n u h); ends = λ v q h. let same : p ≡ q = cc in omega (arith, same, x.ends vs p refl) }
  over_more at done (bad m q) w x = over_bad at m q w (x.refuses m q refl)

  pub over_each : {A B : Type 0} (item : ℕ → ℕ → Outcome A) (bytes : B → List ℕ) (Fit : B → Type 0)
      → ((b : B) (i at : ℕ) → Fit b → Stands (bytes b) s at → Over at (item i at) (bytes b))
      → (l : List B) (i at : ℕ) → Every Fit l → Stands (each bytes l) s at → Over at (numbered item i (length l) at) (each bytes l)
  unfolding numbered
  over_each item bytes Fit x [] i at f stands = over_done at []
  over_each item bytes Fit x (b ∷ l) i at f stands =
      over_chain at (item i at) _ (bytes b) (each bytes l) stands (λ z. x b i at f.0 z)
      (λ a z. over_more (at + length (bytes b)) (a ∷ []) _ (each bytes l) (over_each item bytes Fit x l (i + 1) (at + length (bytes b)) f.1 z))

  -- ---- a number that was written

  pub number_there : (w v at : ℕ) → 0 < w → v < 256 ^ w → Stands (bytes_of w v) s at → number_at w s at ≡ good v (at + w)
  number_there w v at some small stands =
      let long : length (bytes_of w v) ≡ w = bytes_length w v in
      let inside : at + length (bytes_of w v) ≤ length s = stands_inside (bytes_of w v) s at stands (omega (arith, long)) in
      (number_exact w s at).complete v (at + w) small (omega (arith, long), stands) (omega (arith, long, inside))

  -- and passes a test, or 4; then what comes after it
  pub over_number : {B : Type 0} (fits : ℕ → Bool) (w v at : ℕ) (k : ℕ → ℕ → Outcome B) (rest : List ℕ) → P BeyondLimit → 0 < w → v < 256 ^ w
      → Stands (bytes_of w v ++ rest) s at → (fits v ≡ true → Stands rest s (at + w) → Over (at + w) (k v (at + w)) rest)
      → Over at (next (number_that fits w s at) k) (bytes_of w v ++ rest)
  unfolding number_that
  over_number {B} fits w v at k rest four some small stands second =
      rw (number_there w v at some small (stands_left (bytes_of w v) rest s at stands)) (go (fits v) refl)
    where
      behind : Stands rest s (at + w)
      behind = rw (bytes_length w v) at (stands_right (bytes_of w v) rest s at stands)

      go : (t : Bool) → fits v ≡ t → Over at (next (pick t (good v (at + w)) (bad BeyondLimit at)) k) (bytes_of w v ++ rest)
      go false e = over_bad at BeyondLimit at (bytes_of w v ++ rest) four
      go true e =
          let x = second e behind in
          record {
            refuses = x.refuses;
            ends = λ b q h. omega (arith, x.ends b q h, length-append (bytes_of w v) rest, bytes_length w v);
          }

  module _ (four : P BeyondLimit) where
    pub place_over : (count : ℕ) (relations : List Relation) (a : Place) (at : ℕ) → PlaceFits a → Stands (place_bytes a) s at
        → Over at (place_at count relations s at) (place_bytes a)
    unfolding place_at place_bytes
    place_over count relations a at f stands =
        over_restated at _ (bytes_of 1 a.relation ++ (bytes_of 1 a.column ++ [])) _ (simp append-nil) stands
        (λ there. over_number (under count) 1 a.relation at _ (bytes_of 1 a.column ++ []) four (omega arith) f.relation there
        (λ _ z. over_number (under (column_count (get_or relations a.relation past_relation))) 1 a.column (at + 1) _ [] four (omega arith) f.column z
        (λ _ y. over_done (at + 1 + 1) (place a.relation a.column))))

    column_over : (count : ℕ) (sizes : List ℕ) (rows : ℕ) (c : Column) (at : ℕ) → ColumnFits c → Stands (column_bytes c) s at
        → Over at (column_at count sizes rows s at) (column_bytes c)
    unfolding column_at column_bytes
    column_over count sizes rows c at f stands =
        over_restated at _ (bytes_of 1 c.domain ++ (bytes_of 1 c.width ++ (bytes_of 4 c.distinct ++ []))) _ (simp (append_assoc, append-nil)) stands
        (λ there. over_number (under count) 1 c.domain at _ (bytes_of 1 c.width ++ (bytes_of 4 c.distinct ++ [])) four (omega arith) f.domain
        there
        (λ _ z. over_number (between 1 255) 1 c.width (at + 1) _ (bytes_of 4 c.distinct ++ []) four (omega arith) f.width z
        (λ _ y. over_number (between (min 1 rows) (min rows (get_or sizes c.domain 0))) 4 c.distinct (at + 1 + 1) _ [] four (omega arith) f.distinct y
        (λ _ x. over_done (at + 1 + 1 + 4) (record { domain = c.domain; width = c.width; distinct = c.distinct })))))

    pub relation_over : (count : ℕ) (sizes : List ℕ) (r : Relation) (at : ℕ) → RelationFits r → Stands (relation_bytes r) s at
        → Over at (relation_at count sizes s at) (relation_bytes r)
    unfolding relation_at columns_then relation_bytes
    relation_over count sizes r at f stands =
        let columns : List ℕ = each column_bytes (columns_of r) ++ [] in
        over_restated at _ (bytes_of 1 r.site ++ (bytes_of 1 r.column_count ++ (bytes_of 4 r.rows ++ columns))) _ (simp (append_assoc, append-nil)) stands
        (λ there. over_number (between 0 7) 1 r.site at _ (bytes_of 1 r.column_count ++ (bytes_of 4 r.rows ++ columns)) four (omega arith) f.site
        there
        (λ _ z. over_number (between 1 8) 1 r.column_count (at + 1) _ (bytes_of 4 r.rows ++ columns) four (omega arith) f.count z
        (λ few y. over_number (between 0 1000000) 4 r.rows (at + 1 + 1) _ columns four (omega arith) f.rows y
        (λ _ x. over_chain (at + 1 + 1 + 4) _ _ (each column_bytes (columns_of r)) [] x
        (λ v. rw (columns_whole r f (between_true 1 8 r.column_count few).1) at
        (over_each (λ _. column_at count sizes r.rows s) column_bytes ColumnFits (λ c _ q g t. column_over count sizes r.rows c q g t)
        (columns_of r) 0 (at + 1 + 1 + 4) (columns_fit r f) v))
        (λ a v. over_done _ (relation_with r.site r.column_count r.rows a))))))

    -- ---- clauses

    pub over_plain : {B : Type 0} (w v at : ℕ) (k : ℕ → ℕ → Outcome B) (rest : List ℕ) → 0 < w → v < 256 ^ w → Stands (bytes_of w v ++ rest) s at
        → (Stands rest s (at + w) → Over (at + w) (k v (at + w)) rest) → Over at (next (number_at w s at) k) (bytes_of w v ++ rest)
    over_plain w v at k rest some small stands second =
        rw (number_there w v at some small (stands_left (bytes_of w v) rest s at stands))
        (let x = second (rw (bytes_length w v) at (stands_right (bytes_of w v) rest s at stands)) in
        record {
          refuses = x.refuses;
          ends = λ b q h. omega (arith, x.ends b q h, length-append (bytes_of w v) rest, bytes_length w v);
        })

    module _ (five : P TwoDomains) (six : P SameColumn) where
      pub kind_over : (count : ℕ) (relations : List Relation) (c : ClauseKind) (at : ℕ) → KindFits c → Stands (kind_bytes c) s at
          → Over at (clause_at count relations s at) (kind_bytes c)
      unfolding clause_at selection_at join_at joined kind_bytes
      kind_over count relations (Selection a v) at f stands =
          over_restated at _ (bytes_of 1 1 ++ (place_bytes a ++ (bytes_of 4 v ++ []))) _ (simp (append_assoc, append-nil)) stands
          (λ there. over_number (between 1 2) 1 1 at _ (place_bytes a ++ (bytes_of 4 v ++ [])) four (omega arith) (omega arith) there
          (λ _ z. over_chain (at + 1) (place_at count relations s (at + 1)) _ (place_bytes a) (bytes_of 4 v ++ []) z
          (λ y. place_over count relations a (at + 1) f.0 y)
          (λ b y. over_plain 4 v (at + 1 + length (place_bytes a)) _ [] (omega arith) f.1 y (λ x. over_done _ (clause (Selection b v))))))
      kind_over count relations (Join a b) at f stands =
          over_restated at _ (bytes_of 1 2 ++ (place_bytes a ++ (place_bytes b ++ []))) _ (simp (append_assoc, append-nil)) stands
          (λ there. over_number (between 1 2) 1 2 at _ (place_bytes a ++ (place_bytes b ++ [])) four (omega arith) (omega arith) there
          (λ _ z. over_chain (at + 1) (place_at count relations s (at + 1)) _ (place_bytes a) (place_bytes b ++ []) z
          (λ y. place_over count relations a (at + 1) f.0 y)
          (λ x y. over_chain (at + 1 + length (place_bytes a)) (place_at count relations s (at + 1 + length (place_bytes a))) _ (place_bytes b) [] y
          (λ v. place_over count relations b (at + 1 + length (place_bytes a)) f.1 v)
          (λ u v. over_pick _ (eqb (domain_of relations x) (domain_of relations u)) _ _ []
          (over_pick _ (same_place x u) _ _ [] (over_bad _ SameColumn at [] six) (over_done _ (clause (Join x u))))
          (over_bad _ TwoDomains at [] five)))))
