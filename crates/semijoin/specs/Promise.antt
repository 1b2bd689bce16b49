-- "The station end knows the semi-join only by what the semi-join promises." This is the promise: five sentences on a step, then
-- what marks are byte by byte, opening, and the answer. R and S may lie at two stations: each has its own tables and marks.
-- CallPromise says the same of the one-place run and of the calls. The floors above use these two and unfold nothing.
use Rattle.std.specs.Prelude.{ℕ, ◌+◌, ◌≤◌, ◌<◌, ◌≡◌, Bool, true, ◌&&◌, ◌↔◌, length, slice_index, slice_index_or, drop}
use mathlib.Core.List.{List, [], map, Memᴰ}
use Rattle.ground.specs.Tests.{pick}
use Rattle.ground.specs.Lists.{combinations, below}
use Rattle.contents.specs.Parts.{relation_count, clauses_of, targets_of}
use Rattle.entries.specs.declared.places.Place.{Place}
use Rattle.contents.specs.declared.envelope.Envelope.{Envelope}
use Rattle.paths.specs.Meaning.{Row, Table, Combination, word_in, meets_all, tables_of, answer_on, answer_rows}
use Rattle.paths.specs.Steps.{is_place, legal}
use Rattle.paths.specs.declared.steps.Step.{Step}
use Rattle.tables.specs.Offsets.{count_in, row_count, marks_at}
use Rattle.tables.specs.Rising.{among}
use Rattle.tables.specs.Rows.{row_of, word_of, kept_at, SameRows, kept_rows}
use Rattle.tables.specs.Values.{values_of, rising_values}
use Rattle.semijoin.specs.Local.{passes, Passing}

-- what these marks keep of a relation, those keep; what is among these values is among those
abbrev pub FewerRows : Envelope → ℕ → List ℕ → List ℕ → List ℕ → List ℕ → Type 0
FewerRows e r words marks others those = (i : ℕ) → kept_at e words marks r i ≡ true → kept_at e others those r i ≡ true

abbrev pub FewerValues : List ℕ → List ℕ → Type 0
FewerValues values others = (v : ℕ) → among values v ≡ true → among others v ≡ true

-- on some tables a row of relation r takes part in a combination meeting all clauses; so on all tables, as words
abbrev pub NeededIn : Envelope → List Table → ℕ → Row → Type 0
NeededIn e tables r row =
    (rows : Combination) × Memᴰ rows (combinations tables) × (meets_all (clauses_of e) rows ≡ true) × (slice_index_or rows r [] ≡ row)

abbrev pub Needed : Envelope → List ℕ → ℕ → Row → Type 0
Needed e whole r row = NeededIn e (tables_of e whole) r row

-- marks keep every such row of a relation; values hold that column of every such row
abbrev pub Covers : Envelope → List ℕ → List ℕ → List ℕ → ℕ → Type 0
Covers e whole words marks r = (i : ℕ) → i < count_in e words r → Needed e whole r (row_of e words r i) → kept_at e words marks r i ≡ true

abbrev pub Holds : Envelope → List ℕ → List ℕ → Place → Type 0
Holds e whole values b = (row : Row) → Needed e whole b.relation row → among values (word_in row b.column) ≡ true

-- reduced: by tables, values and a column, the marks. removed: as reduced, how many rows. opened: by tables and which relations
-- are here, the marks
pub record Promise (e : Envelope) (reduced : List ℕ → List ℕ → Place → List ℕ → List ℕ) (removed : List ℕ → List ℕ → Place → List ℕ → ℕ)
    (opened : List ℕ → (ℕ → Bool) → List ℕ → List ℕ) : Type 0 where
  -- a step removes rows and adds none
  pub adds_none : (words values marks : List ℕ) (a : Place) (r : ℕ) → FewerRows e r words (reduced words values a marks) words marks
  -- it keeps exactly the rows whose A occurs in column B of the kept rows of S
  pub keeps_exactly : (words marks others those : List ℕ) (a b : Place) (i : ℕ)
      → (kept_at e words (reduced words (values_of e others those b) a marks) a.relation i ≡ true)
      ↔ ((kept_at e words marks a.relation i ≡ true)
      × ((j : ℕ) × (kept_at e others those b.relation j ≡ true) × (word_of e others b j ≡ word_of e words a i)))
  -- by the rising list or by the column itself is the same
  pub either_list : (words marks others those : List ℕ) (a b : Place)
      → reduced words (rising_values e others those b) a marks ≡ reduced words (values_of e others those b) a marks
  -- fewer values keep fewer rows, and fewer kept rows give fewer values
  pub fewer : ((words marks others those values more : List ℕ) (a : Place) → SameRows e a.relation words others
      → FewerRows e a.relation words marks others those → FewerValues values more
      → FewerRows e a.relation words (reduced words values a marks) others (reduced others more a those))
      × ((words marks others those : List ℕ) (b : Place) → SameRows e b.relation words others
      → FewerRows e b.relation words marks others those → FewerValues (values_of e words marks b) (values_of e others those b))
  -- a row that takes part in a combination meeting all clauses is never removed, by a legal step from marks that keep all such
  -- rows of S
  pub never_removed : (whole words marks others those : List ℕ) (s : Step) → legal e s ≡ true → SameRows e s.right.relation others whole
      → Covers e whole others those s.right.relation → (i : ℕ) → Needed e whole s.left.relation (row_of e words s.left.relation i)
      → kept_at e words marks s.left.relation i ≡ true
      → kept_at e words (reduced words (values_of e others those s.right) s.left marks) s.left.relation i ≡ true
  -- ---- the same where only the values are known, as in a message

  pub exactly : (words values marks : List ℕ) (a : Place) (i : ℕ)
      → kept_at e words (reduced words values a marks) a.relation i
      ≡ (kept_at e words marks a.relation i && among values (word_of e words a i))
  pub needed_values : (whole words marks : List ℕ) (b : Place) → is_place e b ≡ true → SameRows e b.relation words whole
      → Covers e whole words marks b.relation → Holds e whole (values_of e words marks b) b
  pub needed_stay : (whole words values marks : List ℕ) (s : Step) → legal e s ≡ true → Holds e whole values s.right → (i : ℕ)
      → Needed e whole s.left.relation (row_of e words s.left.relation i) → kept_at e words marks s.left.relation i ≡ true
      → kept_at e words (reduced words values s.left marks) s.left.relation i ≡ true
  -- ---- the bytes: 0 at each row removed, every other byte as it was, and as many

  pub stores : (words values marks : List ℕ) (a : Place) (i : ℕ) → i < count_in e words a.relation
      → slice_index (marks_at e words a.relation (reduced words values a marks)) i
      ≡ pick (among values (word_of e words a i)) (slice_index (marks_at e words a.relation marks) i) 0
  pub others_stay : (words values marks : List ℕ) (a : Place) (r : ℕ) → (r ≡ a.relation → ⊥)
      → marks_at e words r (reduced words values a marks) ≡ marks_at e words r marks
  pub past_stay : (words values marks : List ℕ) (a : Place)
      → drop (row_count e words) (reduced words values a marks) ≡ drop (row_count e words) marks
  pub as_many : (words values marks : List ℕ) (a : Place) → length (reduced words values a marks) ≡ length marks
  -- the rows that were kept are those that still are, and those removed
  pub removes : (words values marks : List ℕ) (a : Place)
      → length (kept_rows e words marks a.relation)
      ≡ length (kept_rows e words (reduced words values a marks) a.relation) + removed words values a marks
  -- ---- opening: 1 where a row is here and passes the local operations, else 0; bytes past the last row stay. A row passes
  -- exactly where it meets every selection and equality that a path gives; a needed row does

  pub opens_bytes : (words marks : List ℕ) (here : ℕ → Bool) → row_count e words ≤ length marks → (r i : ℕ) → i < count_in e words r
      → slice_index (marks_at e words r (opened words here marks)) i ≡ pick (here r && passes e r (row_of e words r i)) 1 0
  pub opens : (words marks : List ℕ) (here : ℕ → Bool) → row_count e words ≤ length marks → (r i : ℕ) → i < count_in e words r
      → kept_at e words (opened words here marks) r i ≡ (here r && passes e r (row_of e words r i))
  pub opens_past : (words marks : List ℕ) (here : ℕ → Bool) → row_count e words ≤ length marks
      → drop (row_count e words) (opened words here marks) ≡ drop (row_count e words) marks
  pub opens_as_many : (words marks : List ℕ) (here : ℕ → Bool) → length (opened words here marks) ≡ length marks
  pub passes_exactly : (r : ℕ) (row : Row) → (passes e r row ≡ true) ↔ Passing e r row
  pub needed_passes : (whole : List ℕ) (r : ℕ) (row : Row) → Needed e whole r row → passes e r row ≡ true
  -- ---- the answer, and its order, where each relation's marks keep every needed row

  pub answer_stays : (whole : List ℕ) (words marks : ℕ → List ℕ) → ((r : ℕ) → r < relation_count e → SameRows e r (words r) whole)
      → ((r : ℕ) → r < relation_count e → Covers e whole (words r) (marks r) r)
      → answer_on (clauses_of e) (targets_of e) (map (λ r. kept_rows e (words r) (marks r) r) (below (relation_count e))) ≡ answer_rows e whole
