-- The test for a path says yes exactly where there is a path: so what is on a path is one class of an equivalence, and
-- whatever holds along each edge holds along each path.
use mathlib.Core.Path.{◌≡◌, refl, sym, ap, ap₂, ◌∙◌, subst}
use mathlib.Core.Bool.{true, ◌&&◌, ◌||◌, false≢true}
use mathlib.Core.List.Memᴰ
use mathlib.Core.List.{List, [], ◌∷◌, Memᴰ}
use mathlib.Core.Logic.{◌⊎◌, inl, inr, ◌↔◌}
use lib.Dec.{eqb}
use borrow.Author.Tests.{eqb-true, eq-eqb}
use Rattle.ground.proofs.TestLaws.{and_left, and_right, and_both, or_cases, or_left, or_right, same_test}
use Rattle.entries.specs.Places.{same_place}
use Rattle.entries.specs.declared.places.Place.{Place}
use Rattle.contents.specs.declared.envelope.Envelope.{Envelope}
use Rattle.paths.specs.Paths.{Node, column, constant, same_node, Edge, edges, PathBetween, stay, along, back, linked, on_path}

-- ---- nodes are the same exactly where they are equal

pub same_place_lem : (a b : Place) → same_place a b ≡ true → a ≡ b
unfolding same_place
same_place_lem a b t = go (eqb-true _ _ (and_left _ _ t)) (eqb-true _ _ (and_right (eqb a.relation b.relation) _ t))
  where
    go : a.relation ≡ b.relation → a.column ≡ b.column → a ≡ b
    go p q = λ i. record { relation = p i; column = q i }

pub place_same : (a : Place) → same_place a a ≡ true
unfolding same_place
place_same a = and_both (eq-eqb a.relation a.relation refl) (eq-eqb a.column a.column refl)

pub same_node_lem : (x y : Node) → same_node x y ≡ true → x ≡ y
same_node_lem (column a) (column b) t = ap column (same_place_lem a b t)
same_node_lem (column a) (constant d v) t = absurd (false≢true t)
same_node_lem (constant d v) (column b) t = absurd (false≢true t)
same_node_lem (constant d v) (constant c u) t = ap₂ constant (eqb-true _ _ (and_left _ _ t)) (eqb-true _ _ (and_right (eqb d c) _ t))

node_self : (x : Node) → same_node x x ≡ true
node_self (column a) = place_same a
node_self (constant d v) = and_both (eq-eqb d d refl) (eq-eqb v v refl)

pub node_same : (x y : Node) → x ≡ y → same_node x y ≡ true
node_same x y p = subst (λ (z : Node). same_node x z ≡ true) p (node_self x)

-- ---- linked is an equivalence

-- the test as a statement, and the three ways to be linked with one edge more
abbrev Linked : List Edge → Node → Node → Type 0
Linked es x y = linked es x y ≡ true

pub data Ways (e : Edge) (es : List Edge) (x y : Node) : Type 0 where
  before : Linked es x y → Ways e es x y
  onward : Linked es x e.from → Linked es e.to y → Ways e es x y
  backward : Linked es x e.to → Linked es e.from y → Ways e es x y

pub split : (e : Edge) (es : List Edge) (x y : Node) → linked (e ∷ es) x y ≡ true → Ways e es x y
split e es x y t = go (or_cases (linked es x y) _ t)
  where
    two : ((linked es x e.from && linked es e.to y) ≡ true) ⊎ ((linked es x e.to && linked es e.from y) ≡ true) → Ways e es x y
    two (inl s) = onward (and_left _ _ s) (and_right (linked es x e.from) _ s)
    two (inr s) = backward (and_left _ _ s) (and_right (linked es x e.to) _ s)

    go : Linked es x y ⊎ ((linked es x e.from && linked es e.to y || linked es x e.to && linked es e.from y) ≡ true) → Ways e es x y
    go (inl s) = before s
    go (inr s) = two (or_cases (linked es x e.from && linked es e.to y) _ s)

unite : (e : Edge) (es : List Edge) (x y : Node) → Ways e es x y → Linked (e ∷ es) x y
unite e es x y (before s) = or_left _ s
unite e es x y (onward s t) = or_right (linked es x y) (or_left _ (and_both s t))
unite e es x y (backward s t) = or_right (linked es x y) (or_right (linked es x e.from && linked es e.to y) (and_both s t))

pub linked_self : (es : List Edge) (x : Node) → linked es x x ≡ true
linked_self [] x = node_self x
linked_self (e ∷ es) x = unite e es x x (before (linked_self es x))

pub linked_turned : (es : List Edge) (x y : Node) → linked es x y ≡ true → linked es y x ≡ true
linked_turned [] x y t = node_same y x (sym (same_node_lem x y t))
linked_turned (e ∷ es) x y t = unite e es y x (go (linked_turned es) (split e es x y t))
  where
    go : ((a b : Node) → Linked es a b → Linked es b a) → Ways e es x y → Ways e es y x
    go h (before s) = before (h _ _ s)
    go h (onward s u) = backward (h _ _ u) (h _ _ s)
    go h (backward s u) = onward (h _ _ u) (h _ _ s)

pub linked_chain : (es : List Edge) (x y z : Node) → linked es x y ≡ true → linked es y z ≡ true → linked es x z ≡ true
linked_chain [] x y z s t = node_same x z (same_node_lem x y s ∙ same_node_lem y z t)
linked_chain (e ∷ es) x y z s t = unite e es x z (go (linked_chain es) (split e es x y s) (split e es y z t))
  where
    go : ((a b c : Node) → Linked es a b → Linked es b c → Linked es a c) → Ways e es x y → Ways e es y z → Ways e es x z
    go k (before a) (before b) = before (k _ _ _ a b)
    go k (before a) (onward b c) = onward (k _ _ _ a b) c
    go k (before a) (backward b c) = backward (k _ _ _ a b) c
    go k (onward a b) (before c) = onward a (k _ _ _ b c)
    go k (onward a b) (onward c d) = onward a d
    go k (onward a b) (backward c d) = before (k _ _ _ a d)
    go k (backward a b) (before c) = backward a (k _ _ _ b c)
    go k (backward a b) (onward c d) = before (k _ _ _ a d)
    go k (backward a b) (backward c d) = backward a d

pub linked_symmetric : (es : List Edge) (x y : Node) → linked es x y ≡ linked es y x
linked_symmetric es x y = same_test (linked es x y) (linked es y x) (linked_turned es x y) (linked_turned es y x)

-- ---- linked exactly where there is a path

edge_linked : (es : List Edge) (e : Edge) → Memᴰ e es → Linked es e.from e.to
edge_linked [] e m = elim m [ ]
edge_linked (f ∷ es) e m = go (Memᴰ.cases_cons m) (edge_linked es e)
  where
    go : (e ≡ f) ⊎ Memᴰ e es → (Memᴰ e es → Linked es e.from e.to) → Linked (f ∷ es) e.from e.to
    go (inl w) h = rw w (unite f es f.from f.to (onward (linked_self es f.from) (linked_self es f.to)))
    go (inr k) h = unite f es e.from e.to (before (h k))

pub path_linked : {es : List Edge} {x y : Node} → PathBetween es x y → linked es x y ≡ true
path_linked {es} {x} (stay p) = subst (Linked es x) p (linked_self es x)
path_linked {es} {x} {y} (along e m p k) =
    linked_chain es x e.to y (subst (λ (z : Node). Linked es z e.to) (sym p) (edge_linked es e m)) (path_linked k)
path_linked {es} {x} {y} (back e m p k) =
    linked_chain es x e.from y
    (subst (λ (z : Node). Linked es z e.from) (sym p) (linked_turned es e.from e.to (edge_linked es e m)))
    (path_linked k)

with_more : {es : List Edge} (f : Edge) {x y : Node} → PathBetween es x y → PathBetween (f ∷ es) x y
with_more f (stay p) = stay p
with_more f (along e m p k) = along e (Memᴰ.tail m) p (with_more f k)
with_more f (back e m p k) = back e (Memᴰ.tail m) p (with_more f k)

joined : {es : List Edge} {x y : Node} (z : Node) → PathBetween es x y → PathBetween es y z → PathBetween es x z
joined {es} z (stay p) w = subst (λ (n : Node). PathBetween es n z) (sym p) w
joined z (along e m p k) w = along e m p (joined z k w)
joined z (back e m p k) w = back e m p (joined z k w)

pub linked_path : (es : List Edge) (x y : Node) → linked es x y ≡ true → PathBetween es x y
linked_path [] x y t = stay (same_node_lem x y t)
linked_path (e ∷ es) x y t = go (linked_path es) (split e es x y t)
  where
    go : ((a b : Node) → Linked es a b → PathBetween es a b) → Ways e es x y → PathBetween (e ∷ es) x y
    go h (before s) = with_more e (h x y s)
    go h (onward s u) = joined y (with_more e (h x e.from s)) (along e (Memᴰ.head refl) refl (with_more e (h e.to y u)))
    go h (backward s u) = joined y (with_more e (h x e.to s)) (back e (Memᴰ.head refl) refl (with_more e (h e.from y u)))

-- ---- the same for an envelope

module _ (e : Envelope) where
  pub on_path_lem : (x y : Node) → (on_path e x y ≡ true) ↔ PathBetween (edges e) x y
  unfolding on_path
  on_path_lem x y = (linked_path (edges e) x y, path_linked)

  pub on_path_symmetric : (x y : Node) → on_path e x y ≡ on_path e y x
  unfolding on_path
  on_path_symmetric x y = linked_symmetric (edges e) x y

-- ---- what is equal at the ends of each edge is equal at the ends of each path

pub path_equal : {A : Type 0} (f : Node → A) (es : List Edge) → ((e : Edge) → Memᴰ e es → f e.from ≡ f e.to)
    → {x y : Node} → PathBetween es x y → f x ≡ f y
path_equal f es h (stay p) = ap f p
path_equal f es h (along e m p k) = ap f p ∙ h e m ∙ path_equal f es h k
path_equal f es h (back e m p k) = ap f p ∙ sym (h e m) ∙ path_equal f es h k
