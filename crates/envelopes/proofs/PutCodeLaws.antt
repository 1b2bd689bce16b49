-- The laws of writing an envelope: the bytes of its parts put one after the other are its bytes, and how many they are.
use mathlib.Core.Path.{◌≡◌, ap, ◌∙◌}
use mathlib.Core.List.{List, [], ◌∷◌, ◌++◌, append_assoc}
use Prim.Native.Nat.{ℕ, zero, suc, zero-le, ◌+◌, ◌*◌, ◌≤◌}
use native.Mathlib.Nat.{mul-suc}
use native.Mathlib.Omega.{arith}
use lib.ListN.{length, take, length-append, length-take}
use lib.Seq.{sets}
use Rattle.ground.specs.Lists.{each, Every}
use Rattle.ground.specs.Bytes.{bytes_of}
use Rattle.ground.proofs.EveryLaws.{every_of}
use Rattle.fields.specs.Puts.{Puts, Fronts}
use Rattle.fields.proofs.PutLaws.{then_put}
use Rattle.entries.specs.Places.{place_bytes}
use Rattle.entries.specs.Relations.{columns_of, column_bytes, relation_bytes}
use Rattle.entries.specs.Clauses.{kind_bytes, clause_bytes}
use Rattle.contents.specs.Parts.{sizes_of, relations_of, clauses_of, targets_of}
use Rattle.envelopes.specs.Envelope.{CPN, envelope_bytes}
use Rattle.entries.specs.declared.places.Place.{Place}
use Rattle.entries.specs.declared.relations.Column.{Column}
use Rattle.entries.specs.declared.relations.Relation.{Relation}
use Rattle.entries.specs.declared.clauses.Clause.{Clause}
use Rattle.entries.specs.declared.clauses.ClauseKind.{ClauseKind}
use Rattle.entries.specs.declared.clauses.ClauseKind.TheVariants.{Selection, Join}
use Rattle.contents.specs.declared.envelope.Envelope.{Envelope}

-- ---- the whole envelope, part behind part

pairs : (h a b c d e f s t : List ℕ)
    → h ++ (a ++ b) ++ (c ++ d) ++ (e ++ f) ++ (s ++ t) ≡ h ++ a ++ b ++ c ++ d ++ e ++ f ++ s ++ t
pairs h a b c d e f s t = simp append_assoc

module _ (e : Envelope) where
  abbrev head_part : List ℕ
  head_part = CPN ++ bytes_of 2 e.version

  abbrev domain_part : List ℕ
  domain_part = bytes_of 1 e.domain_count ++ each (bytes_of 4) (sizes_of e)

  abbrev relation_part : List ℕ
  relation_part = bytes_of 1 e.relation_count ++ each relation_bytes (relations_of e)

  abbrev clause_part : List ℕ
  clause_part = bytes_of 1 e.clause_count ++ each clause_bytes (clauses_of e)

  abbrev target_part : List ℕ
  target_part = bytes_of 1 e.target_count ++ each place_bytes (targets_of e)

  parts : head_part ++ domain_part ++ relation_part ++ clause_part ++ target_part ≡ envelope_bytes e
  unfolding envelope_bytes
  parts =
      pairs head_part
      (bytes_of 1 e.domain_count) (each (bytes_of 4) (sizes_of e))
      (bytes_of 1 e.relation_count) (each relation_bytes (relations_of e))
      (bytes_of 1 e.clause_count) (each clause_bytes (clauses_of e))
      (bytes_of 1 e.target_count) (each place_bytes (targets_of e))

  -- no list has more than its array
  module _ (l : List ℕ) (h : l ≡ sizes_of e) (long : length e.sizes ≡ 16) where
    pub few_sizes : length l ≤ 16
    unfolding sizes_of
    few_sizes = omega (arith, ap length h, length-take e.domain_count e.sizes)

  module _ (l : List Relation) (h : l ≡ relations_of e) (long : length e.relations ≡ 8) where
    pub few_relations : length l ≤ 8
    unfolding relations_of
    few_relations = omega (arith, ap length h, length-take e.relation_count e.relations)

  module _ (l : List Clause) (h : l ≡ clauses_of e) (long : length e.clauses ≡ 12) where
    pub few_clauses : length l ≤ 12
    unfolding clauses_of
    few_clauses = omega (arith, ap length h, length-take e.clause_count e.clauses)

  module _ (l : List Place) (h : l ≡ targets_of e) (long : length e.targets ≡ 16) where
    pub few_targets : length l ≤ 16
    unfolding targets_of
    few_targets = omega (arith, ap length h, length-take e.target_count e.targets)

  module _ (zs : List ℕ) (rs : List Relation) (cs : List Clause) (ts : List Place) (hz : zs ≡ sizes_of e) (hr : rs ≡ relations_of e)
      (hc : cs ≡ clauses_of e) (ht : ts ≡ targets_of e) where
    abbrev zb : List ℕ
    zb = bytes_of 1 e.domain_count ++ each (bytes_of 4) zs

    abbrev rb : List ℕ
    rb = bytes_of 1 e.relation_count ++ each relation_bytes rs

    abbrev cb : List ℕ
    cb = bytes_of 1 e.clause_count ++ each clause_bytes cs

    abbrev tb : List ℕ
    tb = bytes_of 1 e.target_count ++ each place_bytes ts

    same : head_part ++ zb ++ rb ++ cb ++ tb ≡ envelope_bytes e
    same = rw (hz, hr, hc, ht) parts

    pub put_envelope : (o a b c d t : List ℕ) (p q u v r : ℕ)
        → length zs ≤ 16 → length rs ≤ 8 → length cs ≤ 12 → length ts ≤ 16 → Fronts o 5 head_part p a
        → Puts a p (1 + 4 * length zs) zb q b → Puts b q (1 + 54 * length rs) rb u c → Puts c u (1 + 7 * length cs) cb v d
        → Puts d v (1 + 2 * length ts) tb r t → Fronts o 621 (envelope_bytes e) r t
    put_envelope o a b c d t p q u v r few_z few_r few_c few_t head domains relations clauses targets =
        let first : Fronts o (5 + (1 + 4 * length zs)) (head_part ++ zb) q b = then_put o a b p q 5 (1 + 4 * length zs) head_part zb head domains in
        let second : Fronts o (5 + (1 + 4 * length zs) + (1 + 54 * length rs)) (head_part ++ zb ++ rb) u c =
        then_put o b c q u (5 + (1 + 4 * length zs)) (1 + 54 * length rs) (head_part ++ zb) rb first relations in
        let third : Fronts o (5 + (1 + 4 * length zs) + (1 + 54 * length rs) + (1 + 7 * length cs)) (head_part ++ zb ++ rb ++ cb) v d =
        then_put o c d u v (5 + (1 + 4 * length zs) + (1 + 54 * length rs)) (1 + 7 * length cs) (head_part ++ zb ++ rb) cb second clauses in
        let (long, put, near) =
        then_put o d t v r (5 + (1 + 4 * length zs) + (1 + 54 * length rs) + (1 + 7 * length cs)) (1 + 2 * length ts)
        (head_part ++ zb ++ rb ++ cb) tb third targets in
        (long ∙ ap length same, put ∙ ap (λ (l : List ℕ). sets o 0 l) same, omega (arith, near))

-- ---- how long an envelope is at most

module _ {A : Type 0} (P : A → Type 0) (put : A → List ℕ) (most : ℕ) (h : (x : A) → P x → length (put x) ≤ most) where
  each_most : (n : ℕ) (l : List A) → Every P l → length (each put (take n l)) ≤ most * length l
  each_most zero l e = zero-le
  each_most (suc n) [] e = zero-le
  each_most (suc n) (x ∷ l) (e, f) =
      let here : length (put x) ≤ most = h x e in
      let rest : length (each put (take n l)) ≤ most * length l = each_most n l f in
      omega (arith, length-append (put x) (each put (take n l)), mul-suc most (length l))

all_most : {A : Type 0} (put : A → List ℕ) (most : ℕ) → ((x : A) → length (put x) ≤ most) → (n : ℕ) (l : List A)
    → length (each put (take n l)) ≤ most * length l
all_most put most h n l = each_most (λ _. Unit {0}) put most (λ x _. h x) n l (every_of _ l (λ _ _. tt))

place_most : (x : Place) → length (place_bytes x) ≤ 2
unfolding place_bytes bytes_of
place_most x = omega arith

size_most : (v : ℕ) → length (bytes_of 4 v) ≤ 4
unfolding bytes_of
size_most v = omega arith

column_most : (x : Column) → length (column_bytes x) ≤ 6
unfolding column_bytes bytes_of
column_most x = omega arith

kind_most : (k : ClauseKind) → length (kind_bytes k) ≤ 7
unfolding kind_bytes place_bytes bytes_of
kind_most (Selection a v) = omega arith
kind_most (Join a b) = omega arith

abbrev Eight : Relation → Type 0
Eight x = length x.columns ≡ 8

relation_most : (x : Relation) → Eight x → length (relation_bytes x) ≤ 54
unfolding relation_bytes columns_of bytes_of
relation_most x e = let m = all_most column_bytes 6 column_most x.column_count x.columns in omega arith

-- an envelope whose arrays have their sizes
pub envelope_most : (e : Envelope) → length e.sizes ≡ 16 → length e.relations ≡ 8
    → Every (λ (x : Relation). length x.columns ≡ 8) e.relations → length e.clauses ≡ 12 → length e.targets ≡ 16
    → length (envelope_bytes e) ≤ 621
unfolding bytes_of sizes_of relations_of clauses_of targets_of
envelope_most e sizes relations columns clauses targets =
    let a = all_most (bytes_of 4) 4 size_most e.domain_count e.sizes in
    let b = each_most Eight relation_bytes 54 relation_most e.relation_count e.relations columns in
    let c = all_most clause_bytes 7 (λ x. kind_most x.kind) e.clause_count e.clauses in
    let d = all_most place_bytes 2 place_most e.target_count e.targets in
    omega (arith, simp length-append at (ap length (parts e)))
