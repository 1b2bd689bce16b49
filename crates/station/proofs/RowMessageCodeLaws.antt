-- What the returns of making a row message cite.
use mathlib.Core.Path.{◌≡◌, refl, ap, sym, ◌∙◌, fun_ext}
use mathlib.Core.Bool.{Bool, true, false}
use mathlib.Core.List.{List, [], ◌∷◌, map}
use Prim.Native.Nat.{ℕ, ◌+◌, ◌*◌, ◌≤◌, ◌<◌, min}
use native.Mathlib.Nat.{mul-le-mul}
use native.Mathlib.Omega.{arith}
use lib.ListN.{length, take}
use lib.Seq.{sets, length-sets}
use Rattle.ground.specs.Lists.{filter, below, each}
use Rattle.ground.specs.Outcome.{Outcome, Verdict, taken_of}
use Rattle.ground.specs.Refusing.{judged, judgement}
use Rattle.ground.proofs.ListLaws.{filter_length}
use Rattle.ground.proofs.NumbersLaws.{below_length}
use Rattle.ground.proofs.CollectingLaws.{padded_take}
use Rattle.ground.proofs.RefusingLaws.{judge_refused, judge_taken}
use Rattle.ground.specs.declared.refusals.Reason.TheVariants.{TooShort, NotOurs}
use Rattle.fields.specs.Puts.{fitted}
use Rattle.fields.proofs.PutLaws.{Writes, writes_bad, writes_good, writes_same, fitted_short, fitted_fits}
use Rattle.contents.specs.Parts.{relation_count}
use Rattle.contents.specs.Sites.{is_at}
use Rattle.contents.specs.Kept.{kept_columns, shown_columns}
use Rattle.contents.specs.declared.envelope.Envelope.{Envelope}
use Rattle.contents.specs.declared.kept.Columns.{Columns}
use Rattle.contents.proofs.KeptLaws.{kept_most}
use Rattle.contents.proofs.SiteLaws.{at_none}
use Rattle.entries.specs.Places.{place}
use Rattle.papers.specs.declared.programs.Program.{Program}
use Rattle.papers.specs.declared.checks.Papers.{Papers}
use Rattle.tables.specs.Offsets.{count_in, row_count}
use Rattle.tables.specs.Shape.{shaped}
use Rattle.tables.specs.Offsets.{extent_of}
use Rattle.tables.specs.Rows.{word_over, kept_over, kept_at}
use Rattle.tables.specs.declared.offsets.Extent.{Extent}
use Rattle.tables.proofs.ShapeLaws.{shaped_shape}
use Rattle.tables.proofs.RowLaws.{word_by, kept_by_lem}
use Rattle.ends.specs.Reducing.{step_count}
use Rattle.ends.specs.Ends.{usable}
use Rattle.ends.specs.Messages.{row_message}
use Rattle.station.specs.Making.{send_tests, sent_rows, rows_with, make_rows_of}
use Rattle.ends.specs.declared.ends.End.{End}
use Rattle.ends.proofs.EndLaws.{here_below}
use Rattle.station.proofs.MakingCodeLaws.{sending_ours, call_refused, call_goes}
use Rattle.station.proofs.RowCodeLaws.{chosen, row_words, message_is, message_long}
use Rattle.ground.specs.Refusals.{refusal}
use Rattle.std.specs.Prelude.{Result, Ok, Err}
use Rattle.ground.specs.declared.refusals.Refusal.{Refusal}

-- the kept columns as they are handed over
pub kept_in_use : (e : Envelope) (r : ℕ) (x : Columns) → x ≡ shown_columns (kept_columns e r) → take x.count x.numbers ≡ kept_columns e r
kept_in_use e r x g = rw g (padded_take 8 0 (kept_columns e r))

-- ---- the message into the buffer

module _ (e : Envelope) (words marks : List ℕ) (r : ℕ) (shape : shaped e words ≡ true) (room : row_count e words ≤ length marks)
    (h : r < relation_count e) (run : ℕ) (out : List ℕ) (x : Extent) (a : x ≡ extent_of e words r) (columns : List ℕ)
    (columns_are : columns ≡ kept_columns e r) (count : ℕ) (f : count ≡ length (filter (kept_over x marks) (below x.rows))) where
  abbrev made : List ℕ
  made = row_message run r (sent_rows e words marks r)

  chosen_is : filter (kept_over x marks) (below x.rows) ≡ chosen e words marks r
  chosen_is =
      ap (λ (y : Extent). filter (kept_over y marks) (below y.rows)) a
      ∙ ap (λ (p : ℕ → Bool). filter p (below (count_in e words r))) (fun_ext λ i. kept_by_lem e words (extent_of e words r) i r refl marks _ refl)

  words_are : (λ i. map (word_over x words i) columns) ≡ row_words e words marks r
  words_are =
      ap (λ (l : List ℕ). λ i. map (word_over x words i) l) columns_are
      ∙ ap (λ (y : Extent). λ i. map (word_over y words i) (kept_columns e r)) a
      ∙ fun_ext (λ i. ap (λ (g : ℕ → ℕ). map g (kept_columns e r)) (fun_ext λ c. word_by e words (extent_of e words r) i (place r c) refl _ refl))

  pub message_few : count ≤ 4096
  message_few =
      omega (
        arith,
        f,
        ap (λ (l : List ℕ). length l) chosen_is,
        filter_length (kept_at e words marks r) (below (count_in e words r)),
        below_length (count_in e words r),
        (shaped_shape e words shape).few r,
      )

  abbrev width : ℕ
  width = length columns

  width_is : width ≡ length (kept_columns e r)
  width_is = ap (λ (l : List ℕ). length l) columns_are

  pub message_product : count * width ≤ 32768
  message_product = let a : width ≤ 8 = omega (arith, kept_most e r, width_is) in mul-le-mul message_few a

  length_is : length made ≡ 3 + count * width
  length_is =
      message_long e words marks r run
      ∙ rw (width_is, f, chosen_is)

  pub message_short : length out < 3 + count * width → Writes 0 out (fitted (length out) made) (Err (refusal TooShort 0)) out
  message_short l = writes_bad 0 out _ TooShort 0 (fitted_short (length out) made (omega (arith, length_is)))

  module _ (l : 3 + count * width ≤ length out) (middle : List ℕ) (m : middle ≡ sets out 0 (run ∷ (256 + r) ∷ count ∷ [])) where
    pub message_room : 3 + length (filter (kept_over x marks) (below x.rows)) * length columns ≤ length middle
    message_room =
        let t : length middle ≡ length out = ap (λ (l : List ℕ). length l) m ∙ length-sets out 0 (run ∷ (256 + r) ∷ count ∷ []) in
        rw (← f, t) l

    pub message_made : (last : List ℕ)
        → last ≡ sets middle 3 (each (λ i. map (word_over x words i) columns) (filter (kept_over x marks) (below x.rows)))
        → Writes 0 out (fitted (length out) made) (Ok (3 + count * width)) last
    message_made last k =
        writes_good 0 out (fitted (length out) made) made _ (3 + count * width) last (fitted_fits (length out) made (omega (arith, length_is)))
        (sym length_is)
        (k ∙ rw (m, words_are, chosen_is, f, message_is e words marks r run, chosen_is))

-- ---- the call

pub rows_here : (e : Envelope) (site r : ℕ) (p : Program) (applied : List ℕ) (ours : Bool) → ours ≡ is_at e site r → (n : ℕ) (w : Verdict)
    → w ≡ judgement (send_tests p applied ours r n) → w ≡ Ok (tt {0}) → r < relation_count e
rows_here e site r p applied ours f n w k h = here_below e site r (sym f ∙ sending_ours p applied ours r n w k h)

module _ (q : Papers) (x : End) (words marks : List ℕ) (r : ℕ) (out : List ℕ) where
  abbrev outcome : Outcome (List ℕ)
  outcome = rows_with q x words marks r (length out)

  pub rows_nowhere : 7 < r → Writes 0 out outcome (Err (refusal NotOurs 0)) out
  unfolding rows_with
  rows_nowhere h =
      let none : is_at q.envelope x.site r ≡ false =
      sym (at_none q.envelope r x.site (min 8 q.envelope.relation_count) refl (omega arith)) in
      writes_bad 0 out outcome NotOurs 0 (rw none)

  module _ (ours : Bool) (f : ours ≡ is_at q.envelope x.site r) (n : ℕ) (g : n ≡ step_count q.program) (w : Verdict)
      (k : w ≡ judgement (send_tests q.program x.applied ours r n)) where
    whole : outcome
        ≡ judged (send_tests q.program x.applied ours r n) (fitted (length out) (row_message x.run r (sent_rows q.envelope words marks r)))
    unfolding rows_with
    whole = rw (f, g)

    pub rows_wait : (o : Refusal) → w ≡ Err o → Writes 0 out outcome (Err o) out
    rows_wait o h =
        writes_bad 0 out outcome o.reason o.position
        (whole ∙ judge_refused (send_tests q.program x.applied ours r n) w k _ o.reason o.position h)

    pub rows_made : w ≡ Ok (tt {0}) → (z : Result ℕ Refusal) (after : List ℕ)
        → Writes 0 out (fitted (length out) (row_message x.run r (sent_rows q.envelope words marks r))) z after → Writes 0 out outcome z after
    rows_made h z after m =
        writes_same 0 out outcome _ (whole ∙ judge_taken (send_tests q.program x.applied ours r n) w k _ h) z after m

module _ (x : End) (words marks : List ℕ) (r : ℕ) (out : List ℕ) (c : Result Papers Refusal) (k : c ≡ taken_of (usable x words (length marks))) where
  pub make_rows_refused : (y : Refusal) → c ≡ Err y → Writes 0 out (make_rows_of x words marks r (length out)) (Err y) out
  unfolding make_rows_of
  make_rows_refused = call_refused (λ q. rows_with q x words marks r (length out)) (usable x words (length marks)) out c k

  pub make_rows_goes : (q : Papers) → c ≡ Ok q → (z : Result ℕ Refusal) (after : List ℕ)
      → Writes 0 out (rows_with q x words marks r (length out)) z after → Writes 0 out (make_rows_of x words marks r (length out)) z after
  unfolding make_rows_of
  make_rows_goes = call_goes (λ q. rows_with q x words marks r (length out)) (usable x words (length marks)) out c k
