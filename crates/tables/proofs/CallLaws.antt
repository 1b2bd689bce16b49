-- What the calls on tables give where tables, marks and column are right, and by which numbers they refuse. The floors above go by
-- these and unfold nothing.
use mathlib.Core.Path.{◌≡◌, refl, ◌∙◌}
use mathlib.Core.Bool.{true, false, not, ◌&&◌}
use mathlib.Core.List.{List, [], ◌∷◌, ◌++◌, Memᴰ}
use mathlib.Core.Logic.{◌↔◌}
use Prim.Native.Nat.{ℕ, ◌+◌, ◌≤◌, ◌<◌}
use lib.ListN.{length}
use lib.Dec.{leb}
use borrow.Author.Tests.{leb-true, le-leb, lt-ltb, le-ltb}
use Rattle.ground.specs.Outcome.{Outcome}
use Rattle.ground.specs.Outcome.Outcome.{good, bad}
use Rattle.ground.specs.Refusing.{Test, test, judged}
use Rattle.ground.proofs.RefusingLaws.{refusal_listed}
use Rattle.ground.proofs.TestLaws.{and_left, and_right, and_both}
use Rattle.ground.specs.declared.refusals.Reason.TheVariants.{WrongShape, TooShort, NotOurs}
use Rattle.entries.specs.declared.places.Place.{Place}
use Rattle.contents.specs.declared.envelope.Envelope.{Envelope}
use Rattle.paths.specs.Steps.{is_place}
use Rattle.tables.specs.Offsets.{row_count}
use Rattle.tables.specs.Shape.{shaped, marks_tests, column_tests}
use Rattle.tables.specs.Rows.{word_of, kept_at}
use Rattle.tables.specs.Values.{rising_values, occurs_in, room_test, values_outcome}
use Rattle.tables.proofs.ValueLaws.{values_are}
use Rattle.ground.specs.declared.refusals.Reason.{Reason}

-- ---- a call that begins with 10, 11: of any tests and effect behind them

module _ {A : Type 0} (e : Envelope) (words : List ℕ) (n : ℕ) (ts : List Test) (o : Outcome A) where
  pub first_shape : shaped e words ≡ false → judged (marks_tests e words n ++ ts) o ≡ bad WrongShape 0
  first_shape s = rw s

  module _ (s : shaped e words ≡ true) where
    pub then_marks : n < row_count e words → judged (marks_tests e words n ++ ts) o ≡ bad TooShort 0
    then_marks h = rw (s, lt-ltb n (row_count e words) h)

    pub then_rest : row_count e words ≤ n → judged (marks_tests e words n ++ ts) o ≡ judged ts o
    then_rest h = rw (s, le-ltb n (row_count e words) h)

-- ---- the values of a column

module _ (e : Envelope) (a : Place) (words marks : List ℕ) (start room : ℕ) where
  abbrev found : List ℕ
  found = rising_values e words marks a

  abbrev values_tests : List Test
  values_tests = test (not (is_place e a)) NotOurs 0 ∷ room_test start room (rising_values e words marks a) ∷ []

  -- it refuses by 10, 11, 14, at 0
  pub values_number : (n : Reason) (p : ℕ) → values_outcome e words marks a start room ≡ bad n p
      → Memᴰ n (WrongShape ∷ TooShort ∷ NotOurs ∷ TooShort ∷ []) × (p ≡ 0)
  unfolding values_outcome
  values_number n p h =
      refusal_listed (column_tests e a words (length marks) ++ room_test start room found ∷ []) found 0 n p (refl, (refl, (refl, (refl, tt)))) h

  module _ (s : shaped e words ≡ true) where
    module _ (h : row_count e words ≤ length marks) where
      module _ (c : is_place e a ≡ true) where
        pub values_narrow : room < start + length (rising_values e words marks a)
            → values_outcome e words marks a start room ≡ bad TooShort 0
        unfolding values_outcome
        values_narrow k =
            then_rest e words (length marks) values_tests (good found 0) s h ∙ rw (c, lt-ltb room (start + length found) k)

        pub values_taken_lem : start + length (rising_values e words marks a) ≤ room
            → values_outcome e words marks a start room ≡ good (rising_values e words marks a) 0
        unfolding values_outcome
        values_taken_lem k =
            then_rest e words (length marks) values_tests (good found 0) s h ∙ rw (c, le-ltb room (start + length found) k)

-- a value occurs, where tables, marks and column are right, as it is among the column's values
module _ (e : Envelope) (a : Place) (words marks : List ℕ) (x : ℕ) where
  -- and it occurs exactly where they are right and some kept row has it
  pub occurs_exact : (occurs_in e words marks a x ≡ true)
      ↔ ((shaped e words ≡ true) × (row_count e words ≤ length marks) × (is_place e a ≡ true)
      × ((i : ℕ) × (kept_at e words marks a.relation i ≡ true) × (word_of e words a i ≡ x)))
  unfolding occurs_in
  occurs_exact = (
    λ t.
        let three = and_left _ _ t in
        let two = and_left _ _ three in (
          and_left _ _ two,
          leb-true _ _ (and_right (shaped e words) _ two),
          and_right (shaped e words && leb (row_count e words) (length marks)) _ three,
          (values_are e words marks a x).0 (and_right (shaped e words && leb (row_count e words) (length marks) && is_place e a) _ t),
        ),
    λ (s, h, c, some).
        and_both (and_both (and_both s (le-leb _ _ h)) c) ((values_are e words marks a x).1 some),
  )
