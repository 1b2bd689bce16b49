-- What the functions on local operations answer: whether a row passes, the marks of one relation, the marks of all.
use mathlib.Core.Path.{◌≡◌, refl, sym, ap, ◌∙◌}
use mathlib.Core.Bool.{Bool}
use mathlib.Core.List.{List, [], map}
use Prim.Native.Nat.{ℕ, suc, ◌+◌, ◌≤◌, ◌<◌, min}
use native.Mathlib.Nat.{add-zero, zero-add}
use native.Mathlib.Numerals.{add-one}
use native.Mathlib.Omega.{arith}
use lib.ListN.{length, get_or, take, drop, set, length-set, drop_of_length-le}
use lib.Seq.{sets, length-sets, drop-cons}
use Rattle.ground.specs.Lists.{each, below, numbers_from}
use Rattle.ground.proofs.CollectingLaws.{padded_take}
use Rattle.ground.proofs.NumbersLaws.{each_below}
use Rattle.ground.proofs.PuttingLaws.{sets_append}
use Rattle.contents.specs.Parts.{relation_count}
use Rattle.envelopes.specs.Rules.{Within}
use Rattle.contents.specs.declared.envelope.Envelope.{Envelope}
use Rattle.paths.specs.Labels.{labels_of, by_labels}
use Rattle.paths.specs.Implied.{selected, equal, selections_by, equalities_by, implied_selections, implied_equalities, shown_selections, shown_equalities}
use Rattle.paths.specs.Meaning.{Row, Table}
use Rattle.paths.specs.declared.labels.Labels.{Labels}
use Rattle.paths.specs.declared.implied.Selected.{Selected}
use Rattle.paths.specs.declared.implied.Selections.{Selections}
use Rattle.paths.specs.declared.implied.Equal.{Equal}
use Rattle.paths.specs.declared.implied.Equalities.{Equalities}
use Rattle.paths.proofs.ImpliedLaws.{selections_by_labels, equalities_by_labels}
use Rattle.tables.specs.Offsets.{rows_at, extent_of, rows_over}
use Rattle.semijoin.specs.Local.{opened_at, opened, opened_in, opening_mark}
use Rattle.tables.specs.declared.offsets.Extent.{Extent}
use Rattle.semijoin.proofs.LocalLaws.{marks_of, opened_before}
use Rattle.tables.proofs.RowLaws.{rows_over_lem}

-- ---- the marks of one relation

pub record Opening (x : Extent) (mark : Row → ℕ) (words before : List ℕ) (i : ℕ) (marks : List ℕ) : Type 0 where
  pub long : length marks ≡ length before
  pub same : sets marks (x.mark + i) (map mark (drop i (rows_over x words))) ≡ sets before x.mark (map mark (rows_over x words))

module _ (x : Extent) (mark : Row → ℕ) (words before : List ℕ) where
  module _ (i : ℕ) (marks : List ℕ) (g : Opening x mark words before i marks) where
    pub opening_done : x.rows ≤ i → marks ≡ sets before x.mark (map mark (rows_over x words))
    opening_done h =
        let k : length (rows_over x words) ≤ i = omega (arith, rows_over_lem x words) in
        sym (ap (λ (t : Table). sets marks (x.mark + i) (map mark t)) (drop_of_length-le (rows_over x words) k)) ∙ g.same

    pub opening_more : i < x.rows → (m : ℕ) → m ≡ mark (get_or (rows_over x words) i []) → Opening x mark words before (i + 1) (set marks (x.mark + i) m)
    opening_more h m e =
        let k : i < length (rows_over x words) = omega (arith, rows_over_lem x words) in
        let j : x.mark + (i + 1) ≡ suc (x.mark + i) = omega arith in
        record {
          long = length-set marks (x.mark + i) m ∙ g.long;
          same =
              rw (j, add-one i, e)
              (sym (ap (λ (t : Table). sets marks (x.mark + i) (map mark t)) (drop-cons (rows_over x words) i [] k)) ∙ g.same);
        }

-- ---- the marks of all relations

module _ (e : Envelope) (words : List ℕ) (here : ℕ → Bool) where
  opened_at_lem : (r : ℕ) → map (opening_mark (here r) (implied_selections e r) (implied_equalities e r)) (rows_over (extent_of e words r) words) ≡ marks_of e words here r
  unfolding opened_at rows_at
  opened_at_lem r = refl

  pub record OpeningAll (before : List ℕ) (end i : ℕ) (marks : List ℕ) : Type 0 where
    pub within : i ≤ end
    pub long : length marks ≡ length before
    pub same : marks ≡ sets before 0 (each (marks_of e words here) (below i))

  module _ (before : List ℕ) (end : ℕ) where
    pub opening_all_start : OpeningAll before end 0 before
    unfolding numbers_from
    opening_all_start = record { within = omega arith; long = refl; same = refl }

    module _ (i : ℕ) (marks : List ℕ) (g : OpeningAll before end i marks) where
      pub opening_all_done : end ≤ i → end ≡ min 8 e.relation_count → marks ≡ opened_in e words here before
      unfolding opened opened_in
      opening_all_done h k =
          let s : i ≡ relation_count e = omega (arith, g.within) in
          g.same ∙ ap (λ (n : ℕ). sets before 0 (each (marks_of e words here) (below n))) s

      module _ (w : Within e) (l : Labels) (f : l ≡ record { of = labels_of e }) (x : Extent) (k : x ≡ extent_of e words i)
          (s : Selections) (u : s ≡ shown_selections (selections_by (by_labels l.of e) e i))
          (q : Equalities) (v : q ≡ shown_equalities (equalities_by (by_labels l.of e) e i)) where
        selections_are : take s.count s.all ≡ implied_selections e i
        selections_are =
            ap (λ (y : Selections). take y.count y.all) u
            ∙ padded_take 96 (selected 0 0) (selections_by (by_labels l.of e) e i)
            ∙ ap (λ (m : Labels). selections_by (by_labels m.of e) e i) f
            ∙ selections_by_labels e w i

        equalities_are : take q.count q.all ≡ implied_equalities e i
        equalities_are =
            ap (λ (y : Equalities). take y.count y.all) v
            ∙ padded_take 64 (equal 0 0) (equalities_by (by_labels l.of e) e i)
            ∙ ap (λ (m : Labels). equalities_by (by_labels m.of e) e i) f
            ∙ equalities_by_labels e w i

        module _ (selections : List Selected) (sel : selections ≡ take s.count s.all) (equalities : List Equal)
            (equ : equalities ≡ take q.count q.all) where
          own_marks : map (opening_mark (here i) selections equalities) (rows_over x words) ≡ marks_of e words here i
          own_marks =
              ap (λ (a : List Selected). map (opening_mark (here i) a equalities) (rows_over x words)) (sel ∙ selections_are)
              ∙ ap (λ (b : List Equal). map (opening_mark (here i) (implied_selections e i) b) (rows_over x words)) (equ ∙ equalities_are)
              ∙ ap (λ (y : Extent). map (opening_mark (here i) (implied_selections e i) (implied_equalities e i)) (rows_over y words)) k
              ∙ opened_at_lem i

          pub opening_all_more : i < end → (after : List ℕ)
              → after ≡ sets marks x.mark (map (opening_mark (here i) selections equalities) (rows_over x words))
              → OpeningAll before end (i + 1) after
          opening_all_more h after a =
              record {
                within = omega arith;
                long = ap length a ∙ length-sets marks x.mark (map (opening_mark (here i) selections equalities) (rows_over x words)) ∙ g.long;
                same =
                    a
                    ∙ ap (sets marks x.mark) own_marks
                    ∙ ap (λ (b : List ℕ). sets b x.mark (marks_of e words here i)) g.same
                    ∙ ap (λ (j : ℕ). sets (sets before 0 (each (marks_of e words here) (below i))) j (marks_of e words here i)) place
                    ∙ sym (ap (sets before 0) (each_below (marks_of e words here) i) ∙ sets_append before 0 (each (marks_of e words here) (below i)) (marks_of e words here i));
              }
            where
              place : x.mark ≡ 0 + length (each (marks_of e words here) (below i))
              place = ap (λ (y : Extent). y.mark) k ∙ sym (opened_before e words here i) ∙ sym (zero-add (length (each (marks_of e words here) (below i))))
