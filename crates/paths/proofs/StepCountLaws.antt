-- "Steps 0 to 156, which always holds every legal step once." Each clause adds at most one to the number of columns that
-- have another on a path behind them in the list of columns, and n such columns make at most n (n + 1) legal steps.
use mathlib.Core.Path.{◌≡◌, refl, ap}
use mathlib.Core.Bool.{Bool, true, false, ◌&&◌, ◌||◌, false≢true, or-true, and-false}
use mathlib.Core.List.{List, [], ◌∷◌, ◌++◌, map, Memᴰ}
use mathlib.Core.Logic.{◌⊎◌, inl, inr}
use Prim.Native.Nat.{ℕ, suc, ◌+◌, ◌*◌, ◌≤◌}
use native.Mathlib.Nat.{le_trans, mul-le-mul}
use native.Mathlib.Omega.{arith}
use lib.ListN.{length, length-append, length-map}
use Rattle.ground.specs.Tests.{pick}
use Rattle.ground.specs.Lists.{cons_if, filter, any, each}
use Rattle.ground.specs.Order.{Ordered}
use Rattle.ground.proofs.TestLaws.{not_holds}
use Rattle.ground.proofs.ListLaws.{any_of, any_from, filter_append, filter_map, filter_alike, fewer_pass, none_pass}
use Rattle.ground.proofs.EveryLaws.{every_at}
use Rattle.contents.specs.Parts.{clauses_of}
use Rattle.envelopes.specs.Rules.{Within}
use Rattle.entries.specs.declared.places.Place.{Place}
use Rattle.entries.specs.declared.clauses.Clause.{Clause}
use Rattle.contents.specs.declared.envelope.Envelope.{Envelope}
use Rattle.paths.specs.Paths.{Node, column, Edge, edge_of, edges, linked, on_path}
use Rattle.paths.specs.Steps.{step, places, legal, legal_steps, PlaceBefore}
use Rattle.paths.proofs.PathLaws.{same_node_lem, Ways, split, before, onward, backward, linked_turned, linked_chain, path_linked}
use Rattle.paths.proofs.StepLaws.{places_ordered, legal_step, legal_symmetric}

abbrev one : Bool → ℕ
one b = pick b 1 0

-- ---- general: elements related to one behind them

module _ {A : Type 0} (related : A → A → Bool) where
  -- how many elements have a related one behind them
  abbrev repeats : List A → ℕ
  repeats [] = 0
  repeats (x ∷ l) = one (any (related x) l) + repeats l

  module _ (two : (x y z : A) → related x y ≡ true → related x z ≡ true → related y z ≡ true) where
    -- of those related to x all but the last have one behind them
    class_few : (x : A) (l : List A) → length (filter (related x) l) ≤ 1 + repeats l
    class_few x [] = omega arith
    class_few x (y ∷ l) = go (related x y) refl (class_few x l)
      where
        more : related x y ≡ true → (b : Bool) → any (related x) l ≡ b → length (filter (related x) l) ≤ 1 + repeats l
            → suc (length (filter (related x) l)) ≤ 1 + (one (any (related y) l) + repeats l)
        more t true p h =
            let (z, m, u) = any_from (related x) l p in
            rw (any_of (related y) m (two x y z t u)) (omega arith)
        more t false p h = omega (arith, ap length (none_pass (related x) l p))

        go : (b : Bool) → related x y ≡ b → length (filter (related x) l) ≤ 1 + repeats l
            → length (cons_if b y (filter (related x) l)) ≤ 1 + (one (any (related y) l) + repeats l)
        go true t h = more t (any (related x) l) refl h
        go false t h = omega arith

-- the pairs of a list with another that pass a test, where the other has one element more
pairs_more : {A B : Type 0} (f : A → A → B) (p : B → Bool) (x : A) (k l : List A)
    → length (filter p (each (λ (a : A). map (f a) (x ∷ k)) l))
    ≡ length (filter (λ (a : A). p (f a x)) l) + length (filter p (each (λ (a : A). map (f a) k) l))
pairs_more f p x k [] = refl
pairs_more {A} {B} f p x k (a ∷ l) = go (p (f a x)) (pairs_more f p x k l)
  where
    others : List A → List B
    others j = each (λ (a : A). map (f a) j) l

    go : (b : Bool) → length (filter p (others (x ∷ k))) ≡ length (filter (λ (a : A). p (f a x)) l) + length (filter p (others k))
        → length (cons_if b (f a x) (filter p (map (f a) k ++ others (x ∷ k))))
        ≡ length (cons_if b a (filter (λ (a : A). p (f a x)) l)) + length (filter p (map (f a) k ++ others k))
    go true h = simp (filter_append, length-append) (omega arith)
    go false h = simp (filter_append, length-append) (omega arith)

module _ {A B : Type 0} (related : A → A → Bool) (two : (x y z : A) → related x y ≡ true → related x z ≡ true → related y z ≡ true)
    (f : A → A → B) (p : B → Bool) (self : (x : A) → p (f x x) ≡ false) (turned : (x y : A) → p (f x y) ≡ p (f y x))
    (only : (x y : A) → p (f x y) ≡ true → related x y ≡ true) where
  -- the pairs of a list with itself that pass, where only two that are related do
  pairs_few : (l : List A) → length (filter p (each (λ (a : A). map (f a) l) l)) ≤ repeats related l * (repeats related l + 1)
  pairs_few [] = omega arith
  pairs_few (x ∷ l) =
      rw (self x, filter_append p (map (f x) l) behind, length-append (filter p (map (f x) l)) (filter p behind), pairs_more f p x l l)
      (go (any (related x) l) refl (pairs_few l))
    where
      behind : List B
      behind = each (λ (a : A). map (f a) (x ∷ l)) l

      all : ℕ
      all = length (filter p (each (λ (a : A). map (f a) l) l))

      rights : length (filter p (map (f x) l)) ≡ length (filter (λ (y : A). p (f x y)) l)
      rights = rw filter_map (length-map (filter (λ (y : A). p (f x y)) l) (f x))

      lefts : length (filter (λ (y : A). p (f y x)) l) ≡ length (filter (λ (y : A). p (f x y)) l)
      lefts = ap length (filter_alike (λ (y : A). p (f y x)) (λ (y : A). p (f x y)) l (λ y _. turned y x))

      few : length (filter (λ (y : A). p (f x y)) l) ≤ length (filter (related x) l)
      few = fewer_pass (λ (y : A). p (f x y)) (related x) l (only x)

      go : (b : Bool) → any (related x) l ≡ b → all ≤ repeats related l * (repeats related l + 1)
          → length (filter p (map (f x) l)) + (length (filter (λ (y : A). p (f y x)) l) + all) ≤ (one b + repeats related l) * (one b + repeats related l + 1)
      go true t h = omega (arith, rights, lefts, few, class_few related two x l)
      go false t h = omega (arith, rights, lefts, few, ap length (none_pass (related x) l t))

-- ---- one edge more makes one more at most

-- tests of an element x before a list: something related is behind it, without the edge and with it; the edge's ends are
-- related to something behind it, and to x
wider : (f t fx tx : Bool) → one (f && t) ≤ one ((fx || f) && (tx || t))
wider true true true true = omega arith
wider true true true false = omega arith
wider true true false true = omega arith
wider true true false false = omega arith
wider true false fx tx = omega arith
wider false t fx tx = omega arith

one_more : (old new f t fx tx : Bool) (m n : ℕ)
    → (new ≡ true → (old ≡ true) ⊎ (((fx ≡ true) × (t ≡ true)) ⊎ ((tx ≡ true) × (f ≡ true))))
    → (fx ≡ true → f ≡ true → old ≡ true) → (tx ≡ true → t ≡ true → old ≡ true)
    → m ≤ n + one (f && t) → one new + m ≤ one old + n + one ((fx || f) && (tx || t))
one_more true true f t fx tx m n h a b k = omega (arith, wider f t fx tx)
one_more true false f t fx tx m n h a b k = omega (arith, wider f t fx tx)
one_more false false f t fx tx m n h a b k = omega (arith, wider f t fx tx)
one_more false true f t fx tx m n h a b k = go (h refl)
  where
    go : (false ≡ true) ⊎ (((fx ≡ true) × (t ≡ true)) ⊎ ((tx ≡ true) × (f ≡ true))) → 1 + m ≤ 0 + n + one ((fx || f) && (tx || t))
    go (inl z) = absurd (false≢true z)
    go (inr (inl (s, u))) =
        let none : f ≡ false = not_holds f (λ z. false≢true (a s z)) in
        rw (s, u, or-true) (omega (arith, rw none at k))
    go (inr (inr (s, u))) =
        let none : t ≡ false = not_holds t (λ z. false≢true (b s z)) in
        rw (s, u, or-true) (omega (arith, rw (none, and-false) at k))

-- a path of some edges joins two columns; a node and a column
abbrev joins : List Edge → Place → Place → Bool
joins gs a b = linked gs (column a) (column b)

abbrev reaches : List Edge → Node → Place → Bool
reaches gs x b = linked gs x (column b)

-- with one edge more a column of the list is behind x: it was before, or one end reaches x and the other a column behind
abbrev Behind : Edge → List Edge → Place → List Place → Type 0
Behind g gs x l =
    (any (joins gs x) l ≡ true)
    ⊎ (((reaches gs g.from x ≡ true) × (any (reaches gs g.to) l ≡ true))
    ⊎ ((reaches gs g.to x ≡ true) × (any (reaches gs g.from) l ≡ true)))

edge_repeats : (g : Edge) (gs : List Edge) (l : List Place)
    → repeats (joins (g ∷ gs)) l ≤ repeats (joins gs) l + one (any (reaches gs g.from) l && any (reaches gs g.to) l)
edge_repeats g gs [] = omega arith
edge_repeats g gs (x ∷ l) =
    one_more (any (joins gs x) l) (any (joins (g ∷ gs) x) l) (any (reaches gs g.from) l) (any (reaches gs g.to) l)
    (reaches gs g.from x) (reaches gs g.to x) (repeats (joins (g ∷ gs)) l) (repeats (joins gs) l)
    behind (via g.from) (via g.to) (edge_repeats g gs l)
  where
    ways : (y : Place) → Memᴰ y l → Ways g gs (column x) (column y) → Behind g gs x l
    ways y m (before s) = inl (any_of (joins gs x) m s)
    ways y m (onward s t) = inr (inl (linked_turned gs (column x) g.from s, any_of (reaches gs g.to) m t))
    ways y m (backward s t) = inr (inr (linked_turned gs (column x) g.to s, any_of (reaches gs g.from) m t))

    behind : any (joins (g ∷ gs) x) l ≡ true → Behind g gs x l
    behind t = let (y, m, u) = any_from (joins (g ∷ gs) x) l t in ways y m (split g gs (column x) (column y) u)

    via : (n : Node) → reaches gs n x ≡ true → any (reaches gs n) l ≡ true → any (joins gs x) l ≡ true
    via n s t =
        let (y, m, u) = any_from (reaches gs n) l t in
        any_of (joins gs x) m (linked_chain gs (column x) n (column y) (linked_turned gs n (column x) s) u)

-- columns in order are different ones
before_apart : (a b : Place) → PlaceBefore a b → column a ≡ column b → ⊥
before_apart a b h p = go h (place_of p)
  where
    place_of : column a ≡ column b → a ≡ b
    place_of p = cc

    go : PlaceBefore a b → a ≡ b → ⊥
    go (inl k) q = let r : a.relation ≡ b.relation = ap (λ (c : Place). c.relation) q in omega arith
    go (inr (_, k)) q = let r : a.column ≡ b.column = ap (λ (c : Place). c.column) q in omega arith

repeats_few : (gs : List Edge) (l : List Place) → Ordered PlaceBefore l → repeats (joins gs) l ≤ length gs
repeats_few (g ∷ gs) l o =
    let bound : one (any (reaches gs g.from) l && any (reaches gs g.to) l) ≤ 1 = one_few (any (reaches gs g.from) l && any (reaches gs g.to) l) in
    omega (arith, edge_repeats g gs l, repeats_few gs l o)
  where
    one_few : (b : Bool) → one b ≤ 1
    one_few true = omega arith
    one_few false = omega arith
repeats_few [] [] o = omega arith
repeats_few [] (x ∷ l) o = rw (not_holds (any (joins [] x) l) none) (omega (arith, repeats_few [] l o.1))
  where
    none : any (joins [] x) l ≡ true → ⊥
    none t = let (y, m, u) = any_from (joins [] x) l t in before_apart x y (every_at (PlaceBefore x) l o.0 m) (same_node_lem (column x) (column y) u)

-- ---- the legal steps

pub legal_few : (e : Envelope) → Within e → length (legal_steps e) ≤ 156
unfolding legal_steps edges on_path
legal_few e w =
    let more : repeats (joins (edges e)) (places e) + 1 ≤ 13 = omega (arith, few) in
    le_trans
    (pairs_few (joins (edges e)) two step (legal e) self (legal_symmetric e) (λ a b t. path_linked (legal_step e (step a b) t).path) (places e))
    (mul-le-mul few more)
  where
    two : (a b c : Place) → joins (edges e) a b ≡ true → joins (edges e) a c ≡ true → joins (edges e) b c ≡ true
    two a b c s t = linked_chain (edges e) (column b) (column a) (column c) (linked_turned (edges e) (column a) (column b) s) t

    self : (a : Place) → legal e (step a a) ≡ false
    self a = not_holds (legal e (step a a)) (λ t. (legal_step e (step a a) t).differ refl)

    few : repeats (joins (edges e)) (places e) ≤ 12
    few =
        omega (
          arith,
          repeats_few (edges e) (places e) (places_ordered e),
          length-map (clauses_of e) (λ (c : Clause). edge_of e.relations c.kind),
          w.whole_clauses,
          w.clauses,
        )
