-- The semi-join keeps its promise.
use mathlib.Core.Path.{◌≡◌, refl, sym, ap, ◌∙◌}
use mathlib.Core.Bool.{Bool, true, false, ◌&&◌}
use mathlib.Core.Logic.{◌↔◌}
use mathlib.Core.List.Memᴰ
use mathlib.Core.List.{List, [], Memᴰ}
use Prim.Native.Nat.{ℕ, ◌≤◌, ◌<◌}
use native.Mathlib.Decide.{ℕ_discrete}
use native.Mathlib.Omega.{arith}
use lib.ListN.{length, get_or}
use Rattle.ground.specs.Tests.{pick}
use Rattle.ground.proofs.CountLaws.{split}
use Rattle.ground.proofs.TestLaws.{and_left, and_right, and_both}
use Rattle.ground.proofs.ListLaws.{mem_get_d}
use Rattle.ground.proofs.CombinationLaws.{combinations_from_lem}
use Rattle.contents.specs.Parts.{relation_count}
use Rattle.entries.specs.declared.places.Place.{Place}
use Rattle.contents.specs.declared.envelope.Envelope.{Envelope}
use Rattle.paths.specs.Meaning.{Row, Table, word_in, value_in, tables_of}
use Rattle.paths.specs.Steps.{is_place, legal}
use Rattle.paths.specs.declared.steps.Step.{Step}
use Rattle.paths.proofs.StepLaws.{legal_step}
use Rattle.paths.proofs.MeaningLaws.{columns_equal}
use Rattle.tables.specs.Offsets.{count_in, rows_at, marks_at}
use Rattle.tables.specs.Rising.{among}
use Rattle.tables.specs.Rows.{is_kept, row_of, word_of, kept_at, SameRows}
use Rattle.semijoin.specs.Marks.{sieved, reduced_by, removed_by}
use Rattle.tables.specs.Values.{values_of, rising_values}
use Rattle.semijoin.specs.Local.{opened_in}
use Rattle.semijoin.specs.Promise.{FewerRows, FewerValues, Needed, Covers, Holds, Promise}
use Rattle.tables.proofs.OffsetLaws.{count_outside, rows_at_length, table_at, tables_length}
use Rattle.tables.proofs.ShapeLaws.{place_relation}
use Rattle.tables.proofs.RowLaws.{past_last}
use Rattle.tables.proofs.ValueLaws.{values_of_lem, values_from_lem, same_values}
use Rattle.semijoin.proofs.MarkLaws.{sieved_at, sieved_past}
use Rattle.semijoin.proofs.LocalLaws.{passes_exactly, needed_passes, opened_byte, opened_kept, opened_past, opened_as_many}
use Rattle.semijoin.proofs.AnswerLaws.{delivered}
use Rattle.semijoin.proofs.ReducedLaws.{reduced_length, reduced_own, reduced_byte, reduced_other, reduced_past, removed_rows, reduced_alike}

kept_both : (b : Bool) (m : ℕ) → is_kept (pick b m 0) ≡ (is_kept m && b)
kept_both true m = go (is_kept m)
  where
    go : (k : Bool) → k ≡ (k && true)
    go true = refl
    go false = refl
kept_both false m = go (is_kept m)
  where
    go : (k : Bool) → false ≡ (k && false)
    go true = refl
    go false = refl

module _ (e : Envelope) where
  -- ---- a step

  module _ (words values marks : List ℕ) (a : Place) where
    exact : (i : ℕ) → kept_at e words (reduced_by e words values a marks) a.relation i
        ≡ (kept_at e words marks a.relation i && among values (word_of e words a i))
    exact i =
        ap (λ (ms : List ℕ). is_kept (get_or ms i 0)) (reduced_own e words values a marks)
        ∙ split (count_in e words a.relation) i past inside
      where
        ms : List ℕ
        ms = marks_at e words a.relation marks

        rows : Table
        rows = rows_at e words a.relation

        Exactly : Type 0
        Exactly = is_kept (get_or (sieved values a.column ms rows) i 0) ≡ (is_kept (get_or ms i 0) && among values (word_of e words a i))

        past : count_in e words a.relation ≤ i → Exactly
        past h =
            rw (sieved_past values a.column ms rows i (rw (rows_at_length e words a.relation) h), past_last e words marks a.relation i h)

        inside : i < count_in e words a.relation → Exactly
        inside h =
            ap is_kept (sieved_at values a.column ms rows i (rw (rows_at_length e words a.relation) h))
            ∙ kept_both (among values (word_of e words a i)) (get_or ms i 0)

    none_added : (r : ℕ) → FewerRows e r words (reduced_by e words values a marks) words marks
    none_added r i t = go (ℕ_discrete r a.relation)
      where
        own : kept_at e words (reduced_by e words values a marks) a.relation i ≡ true → kept_at e words marks a.relation i ≡ true
        own t = and_left _ _ (sym (exact i) ∙ t)

        go : Dec (r ≡ a.relation) → kept_at e words marks r i ≡ true
        go (yes p) = rw p (own (rw p at t))
        go (no n) = rw (reduced_other e words values a marks r n) at t

  -- by the column of other marks
  exact_column : (words marks others those : List ℕ) (a b : Place) (i : ℕ)
      → (kept_at e words (reduced_by e words (values_of e others those b) a marks) a.relation i ≡ true)
      ↔ ((kept_at e words marks a.relation i ≡ true)
      × ((j : ℕ) × (kept_at e others those b.relation j ≡ true) × (word_of e others b j ≡ word_of e words a i)))
  exact_column words marks others those a b i = (
    λ t.
        let both : (kept_at e words marks a.relation i && among (values_of e others those b) (word_of e words a i)) ≡ true =
        sym (exact words (values_of e others those b) marks a i) ∙ t in
        (and_left _ _ both, values_from_lem e others those b (word_of e words a i) (and_right (kept_at e words marks a.relation i) _ both)),
    λ (k, (j, there, w)).
        exact words (values_of e others those b) marks a i ∙ and_both k (values_of_lem e others those b (word_of e words a i) j there w),
  )

  rows_fewer : (words marks others those values more : List ℕ) (a : Place) → SameRows e a.relation words others
      → FewerRows e a.relation words marks others those → FewerValues values more
      → FewerRows e a.relation words (reduced_by e words values a marks) others (reduced_by e others more a those)
  rows_fewer words marks others those values more a same rows vals i t =
      let both : (kept_at e words marks a.relation i && among values (word_of e words a i)) ≡ true = sym (exact words values marks a i) ∙ t in
      exact others more those a i
      ∙ and_both (rows i (and_left _ _ both))
      (vals (word_of e others a i)
      (rw (ap (λ (t : Table). word_in (get_or t i []) a.column) same) at (and_right (kept_at e words marks a.relation i) _ both)))

  values_fewer : (words marks others those : List ℕ) (b : Place) → SameRows e b.relation words others
      → FewerRows e b.relation words marks others those → FewerValues (values_of e words marks b) (values_of e others those b)
  values_fewer words marks others those b same rows v t =
      let (i, k, w) = values_from_lem e words marks b v t in
      values_of_lem e others those b v i (rows i k) (ap (λ (t : Table). word_in (get_or t i []) b.column) (sym same) ∙ w)

  -- ---- needed rows

  stay_needed : (whole words values marks : List ℕ) (s : Step) → legal e s ≡ true → Holds e whole values s.right → (i : ℕ)
      → Needed e whole s.left.relation (row_of e words s.left.relation i) → kept_at e words marks s.left.relation i ≡ true
      → kept_at e words (reduced_by e words values s.left marks) s.left.relation i ≡ true
  stay_needed whole words values marks s t holds i (rows, m, met, w) k =
      let same : value_in rows s.right ≡ word_of e words s.left i =
      sym (columns_equal e rows met s.left s.right (legal_step e s t).path) ∙ ap (λ (row : Row). word_in row s.left.column) w in
      exact words values marks s.left i
      ∙ and_both k (rw same at (holds (get_or rows s.right.relation []) (rows, m, met, refl)))

  needed_row : (whole : List ℕ) (r : ℕ) → r < relation_count e → (row : Row) → Needed e whole r row → Memᴰ row (rows_at e whole r)
  needed_row whole r h row (rows, m, met, w) =
      rw (table_at e whole r) at (Memᴰ.cast (sym w) (combinations_from_lem [] (tables_of e whole) r (rw (tables_length e whole) h) m))

  values_needed : (whole words marks : List ℕ) (b : Place) → is_place e b ≡ true → SameRows e b.relation words whole
      → Covers e whole words marks b.relation → Holds e whole (values_of e words marks b) b
  values_needed whole words marks b p same covers row n =
      let h : b.relation < relation_count e = place_relation e b p in
      let (i, l, w) = mem_get_d [] (needed_row whole b.relation h row n) in
      let own : row_of e words b.relation i ≡ row = ap (λ (t : Table). get_or t i []) same ∙ w in
      let k : i < count_in e words b.relation = omega (arith, ap length same, rows_at_length e words b.relation) in
      values_of_lem e words marks b (word_in row b.column) i (covers i k (rw own n)) (ap (λ (row : Row). word_in row b.column) own)

  -- ---- opening

  -- a relation that has a row is one of the envelope
  relation_inside : (words : List ℕ) (r i : ℕ) → i < count_in e words r → r < relation_count e
  relation_inside words r i h =
      split (relation_count e) r
      (λ k. let none : count_in e words r ≡ 0 = count_outside e words r k in absurd (omega arith))
      (λ k. k)

  pub promise : Promise e (reduced_by e) (removed_by e) (opened_in e)
  promise =
      record {
        adds_none = none_added;
        keeps_exactly = exact_column;
        either_list = λ words marks others those a b.
            reduced_alike e words (rising_values e others those b) (values_of e others those b) a marks (same_values e others those b);
        fewer = (rows_fewer, values_fewer);
        never_removed = λ whole words marks others those s t same covers i n k.
            stay_needed whole words (values_of e others those s.right) marks s t
            (values_needed whole others those s.right (legal_step e s t).right same covers) i n k;
        exactly = exact;
        needed_values = values_needed;
        needed_stay = stay_needed;
        stores = λ words values marks a i h. reduced_byte e words values a marks i h;
        others_stay = λ words values marks a r n. reduced_other e words values a marks r n;
        past_stay = λ words values marks a. reduced_past e words values a marks;
        as_many = λ words values marks a. reduced_length e words values a marks;
        removes = λ words values marks a. removed_rows e words values a marks;
        opens_bytes = λ words marks here fits r i h. opened_byte e words here marks fits r i (relation_inside words r i h) h;
        opens = λ words marks here fits r i h. opened_kept e words here marks fits r i (relation_inside words r i h) h;
        opens_past = λ words marks here fits. opened_past e words here marks fits;
        opens_as_many = λ words marks here. opened_as_many e words here marks;
        passes_exactly = passes_exactly e;
        needed_passes = λ whole r row n. needed_passes e whole r row n;
        answer_stays = λ whole words marks same covers. delivered e whole words marks same covers;
      }
