-- Local operations: which rows pass them, that a row of a combination that meets all clauses does, and that opening marks the rows that pass.
use mathlib.Core.Path.{◌≡◌, refl, sym, ap, ◌∙◌}
use mathlib.Core.Bool.{Bool, true, false, ◌&&◌}
use mathlib.Core.List.{List, [], ◌∷◌, ◌++◌, append_assoc}
use mathlib.Core.Logic.{◌↔◌}
use Prim.Native.Nat.{ℕ, zero, suc, ◌+◌, ◌-◌, ◌≤◌, ◌<◌}
use native.Mathlib.Numerals.{add-one}
use native.Mathlib.Omega.{arith}
use lib.ListN.{length, get_or, take, drop, length-map, length-append}
use lib.Seq.{length-sets, sets-eq, take_at, drop_at}
use lib.Dec.{eqb}
use borrow.Author.Tests.{eqb-true, eq-eqb}
use Rattle.ground.specs.Tests.{pick}
use Rattle.ground.specs.Lists.{all, each, below, numbers_from}
use Rattle.ground.proofs.TestLaws.{and_left, and_right, and_both}
use Rattle.ground.proofs.ListLaws.{all_at, all_of, each_append, get_d_map}
use Rattle.ground.proofs.NumbersLaws.{each_below, below_split}
use Rattle.ground.proofs.PuttingLaws.{sets_behind}
use Rattle.entries.specs.Places.{place}
use Rattle.contents.specs.Parts.{relation_count}
use Rattle.contents.specs.declared.envelope.Envelope.{Envelope}
use Rattle.paths.specs.Paths.{column, constant, on_path}
use Rattle.paths.specs.Meaning.{Row, word_in}
use Rattle.paths.specs.Implied.{implied_selections, implied_equalities}
use Rattle.paths.specs.declared.implied.Selected.{Selected}
use Rattle.paths.specs.declared.implied.Equal.{Equal}
use Rattle.paths.proofs.ImpliedLaws.{selections_member, equalities_member, selection_met, equality_met}
use Rattle.paths.proofs.PathLaws.{on_path_lem}
use Rattle.tables.specs.Offsets.{count_in, rows_before, first_mark, row_count, rows_at, marks_at, marks_over}
use Rattle.semijoin.specs.Local.{passes_by, passes, Passing, opening_mark, opened_at, opened, opened_in}
use Rattle.tables.specs.Rows.{is_kept, row_of, kept_at}
use Rattle.semijoin.specs.Promise.{Needed}
use Rattle.tables.proofs.OffsetLaws.{rows_at_length, rows_none, rows_more}

-- a row passes exactly where it meets what every path gives
pub passes_exactly : (e : Envelope) (r : ℕ) (row : Row) → (passes e r row ≡ true) ↔ Passing e r row
unfolding passes passes_by
passes_exactly e r row = (from, into)
  where
    selects : Selected → Bool
    selects s = eqb (word_in row s.column) s.value

    equals : Equal → Bool
    equals s = eqb (word_in row s.left) (word_in row s.right)

    from : (all selects (implied_selections e r) && all equals (implied_equalities e r)) ≡ true → Passing e r row
    from t =
        record {
          selections = λ c d v h n p. eqb-true _ _ (all_at selects (implied_selections e r) (and_left _ _ t)
              ((selections_member (on_path e) e r c v).1 (h, (d, n, (on_path_lem e (column (place r c)) (constant d v)).1 p))));
          equalities = λ a b h k p. eqb-true _ _ (all_at equals (implied_equalities e r) (and_right (all selects (implied_selections e r)) _ t)
              ((equalities_member (on_path e) e r a b).1 (h, k, (on_path_lem e (column (place r a)) (column (place r b))).1 p)));
        }

    into : Passing e r row → (all selects (implied_selections e r) && all equals (implied_equalities e r)) ≡ true
    into q =
        and_both
        (all_of selects (implied_selections e r) λ s m.
        let (h, (d, n, t)) = (selections_member (on_path e) e r s.column s.value).0 m in
        eq-eqb _ _ (q.selections s.column d s.value h n ((on_path_lem e (column (place r s.column)) (constant d s.value)).0 t)))
        (all_of equals (implied_equalities e r) λ s m.
        let (h, k, t) = (equalities_member (on_path e) e r s.left s.right).0 m in
        eq-eqb _ _ (q.equalities s.left s.right h k ((on_path_lem e (column (place r s.left)) (column (place r s.right))).0 t)))

-- a row that the answer needs passes
pub needed_passes : (e : Envelope) (whole : List ℕ) (r : ℕ) (row : Row) → Needed e whole r row → passes e r row ≡ true
unfolding passes passes_by
needed_passes e whole r row (rows, m, met, w) =
    rw (← w)
    (and_both
    (all_of (λ (s : Selected). eqb (word_in (get_or rows r []) s.column) s.value) (implied_selections e r)
    λ s n. eq-eqb _ _ (selection_met e rows met r s.column s.value n))
    (all_of (λ (s : Equal). eqb (word_in (get_or rows r []) s.left) (word_in (get_or rows r []) s.right)) (implied_equalities e r)
    λ s n. eq-eqb _ _ (equality_met e rows met r s.left s.right n)))

kept_bit : (b : Bool) → is_kept (pick b 1 0) ≡ b
kept_bit true = refl
kept_bit false = refl

module _ (e : Envelope) (words : List ℕ) where
  pub opened_at_length : (here : Bool) (r : ℕ) → length (opened_at e words here r) ≡ count_in e words r
  unfolding opened_at
  opened_at_length here r = length-map (rows_at e words r) (opening_mark here (implied_selections e r) (implied_equalities e r)) ∙ rows_at_length e words r

  module _ (here : ℕ → Bool) where
    abbrev pub marks_of : ℕ → List ℕ
    marks_of r = opened_at e words (here r) r

    pub opened_before : (n : ℕ) → length (each marks_of (below n)) ≡ rows_before e words n
    unfolding numbers_from
    opened_before zero = sym (rows_none e words)
    opened_before (suc n) = rw (add-one n) at more (opened_before n)
      where
        more : length (each marks_of (below n)) ≡ rows_before e words n → length (each marks_of (below (n + 1))) ≡ rows_before e words (n + 1)
        more ih =
            ap length (each_below marks_of n)
            ∙ length-append (each marks_of (below n)) (marks_of n)
            ∙ rw (ih, opened_at_length (here n) n) (sym (rows_more e words n))

    abbrev later : ℕ → List ℕ
    later r = each marks_of (numbers_from (r + 1) (relation_count e - (r + 1)))

    -- all marks, cut around those of relation r
    opened_parts : (r : ℕ) → r < relation_count e → (rest : List ℕ)
        → opened e words here ++ rest ≡ each marks_of (below r) ++ (marks_of r ++ (later r ++ rest))
    unfolding opened
    opened_parts r h rest =
        ap (λ (l : List ℕ). each marks_of l ++ rest) (below_split (relation_count e) r h)
        ∙ ap (λ (l : List ℕ). l ++ rest) (each_append marks_of (below r) (r ∷ numbers_from (r + 1) (relation_count e - (r + 1))))
        ∙ append_assoc (each marks_of (below r)) (marks_of r ++ later r) rest
        ∙ ap (λ (l : List ℕ). each marks_of (below r) ++ l) (append_assoc (marks_of r) (later r) rest)

    pub opened_length : length (opened e words here) ≡ row_count e words
    unfolding opened
    opened_length = opened_before (relation_count e)

    pub opened_as_many : (marks : List ℕ) → length (opened_in e words here marks) ≡ length marks
    unfolding opened_in
    opened_as_many marks = length-sets marks 0 (opened e words here)

    module _ (marks : List ℕ) (fits : row_count e words ≤ length marks) where
      room : 0 + length (opened e words here) ≤ length marks
      room = omega (arith, opened_length)

      pub opened_own : (r : ℕ) → r < relation_count e → marks_at e words r (opened_in e words here marks) ≡ opened_at e words (here r) r
      unfolding opened_in marks_at marks_over
      opened_own r h =
          ap (λ (l : List ℕ). take (count_in e words r) (drop (first_mark e words r) l))
          (sets-eq (opened e words here) marks 0 room ∙ opened_parts r h rest)
          ∙ ap (take (count_in e words r)) (drop_at (each marks_of (below r)) (marks_of r ++ (later r ++ rest)) (first_mark e words r) (opened_before r))
          ∙ take_at (marks_of r) (later r ++ rest) (count_in e words r) (opened_at_length (here r) r)
        where
          rest : List ℕ
          rest = drop (0 + length (opened e words here)) marks

      pub opened_past : drop (row_count e words) (opened_in e words here marks) ≡ drop (row_count e words) marks
      unfolding opened_in
      opened_past =
          let end : 0 + length (opened e words here) ≡ row_count e words = omega (arith, opened_length) in
          rw end at (sets_behind marks 0 (opened e words here) room)

      -- 1 where a row is here and passes, else 0; so it is kept exactly there
      pub opened_byte : (r i : ℕ) → r < relation_count e → i < count_in e words r
          → get_or (marks_at e words r (opened_in e words here marks)) i 0 ≡ pick (here r && passes e r (row_of e words r i)) 1 0
      unfolding opened_at opening_mark passes
      opened_byte r i h k =
          ap (λ (ms : List ℕ). get_or ms i 0) (opened_own r h)
          ∙ get_d_map (λ (row : Row). pick (here r && passes e r row) 1 0) (rows_at e words r) i [] 0 (rw (rows_at_length e words r) k)

      pub opened_kept : (r i : ℕ) → r < relation_count e → i < count_in e words r
          → kept_at e words (opened_in e words here marks) r i ≡ (here r && passes e r (row_of e words r i))
      opened_kept r i h k = ap is_kept (opened_byte r i h k) ∙ kept_bit (here r && passes e r (row_of e words r i))
