-- "A station delivers to itself where both ends are one." What was made at one end, delivered to any end of the same run and
-- papers, also to the one that made it: where the tables there are of the shape and the marks enough, it is taken, or refused
-- because it is not that end's (14), was there before (16), comes too early (17) or finds no room in the store (11). It is never
-- refused as cut short, of another run, or not sound.
use mathlib.Core.Path.{◌≡◌, refl, ap, sym, ◌∙◌}
use mathlib.Core.Bool.{true, false, not}
use mathlib.Core.List.{List, [], ◌∷◌, Memᴰ}
use Prim.Native.Nat.{ℕ, ◌+◌, ◌≤◌, ◌<◌}
use native.Mathlib.Omega.{arith}
use lib.ListN.{length}
use lib.Dec.{ltb, eqb}
use borrow.Author.Tests.{le-ltb, eq-eqb}
use Rattle.ground.specs.Outcome.Outcome.{good, bad}
use Rattle.ground.specs.Refusing.{Test, test}
use Rattle.ground.proofs.OutcomeLaws.{turned_bad}
use Rattle.ground.proofs.RefusingLaws.{judged_insert, refusal_listed}
use Rattle.ground.specs.declared.refusals.Reason.TheVariants.{TooShort, NotOurs, NotSound, AlreadyTaken, StepMissing}
use Rattle.contents.specs.Parts.{relation_count}
use Rattle.contents.specs.Sites.{is_at}
use Rattle.contents.specs.Kept.{kept_columns}
use Rattle.papers.specs.Checks.{GoodPapers}
use Rattle.papers.specs.declared.checks.Papers.{Papers}
use Rattle.tables.specs.Shape.{shaped}
use Rattle.tables.specs.Values.{rising_values}
use Rattle.ends.specs.Reducing.{step_count, step_of, steps_before}
use Rattle.ends.specs.Ends.{Marked, applied_of, has_arrived}
use Rattle.ends.specs.Messages.{front_length, run_of, second_of, about_of, counted, sound_values}
use Rattle.station.specs.Making.{sent_rows}
use Rattle.station.specs.Receiving.{Stored, Held, values_taken, rows_taken, taken, receive_with}
use Rattle.ends.specs.declared.messages.About.{About}
use Rattle.ends.specs.declared.messages.About.TheVariants as about
use Rattle.ends.specs.declared.ends.End.{End}
use Rattle.ends.proofs.EndLaws.{here_below}
use Rattle.ends.proofs.MessageLaws.{about_step, about_rows, value_run, value_second, row_run, row_second, value_front, row_front}
use Rattle.station.proofs.MadeLaws.{values_sound, rows_counted}
use Rattle.station.proofs.MakingLaws.{ValuesMade, RowsMade}
use Rattle.station.proofs.ReceivingLaws.{step_effect, step_judged, rows_effect, rows_judged}
use Rattle.ground.specs.declared.refusals.Reason.{Reason}

module _ (q : Papers) (y : End) (others those store m : List ℕ) where
  -- a message of this run, by what it speaks of
  spoken : front_length ≤ length m → run_of m ≡ y.run → (w : About) → about_of (step_count q.program) (relation_count q.envelope) (second_of m) ≡ w
      → receive_with q y others those store m ≡ taken q y others those store m w
  unfolding receive_with
  spoken long run w e = rw (le-ltb (length m) front_length long, eq-eqb (run_of m) y.run run, e)

  abbrev held : Marked → Held
  held s = record { end = s.end; marks = s.marks; store = store }

  abbrev kept : Stored → Held
  kept s = record { end = s.end; marks = those; store = s.store }

  -- rows of this run that come to the assembly site, sound, where none came before and there is room: taken
  pub rows_come : front_length ≤ length m → run_of m ≡ y.run → (r : ℕ) → about_of (step_count q.program) (relation_count q.envelope) (second_of m) ≡ about.Rows r
      → y.site ≡ q.program.site → counted (length (kept_columns q.envelope r)) m ≡ true → has_arrived y r ≡ false → y.used + length m ≤ length store
      → receive_with q y others those store m ≡ good (kept (rows_effect q y store m r)) 0
  unfolding taken
  rows_come long run r says here whole first fits =
      let found : rows_taken q y store m r ≡ good (rows_effect q y store m r) 0 =
      rows_judged q y store m r
      ∙ rw (eq-eqb y.site q.program.site here, whole, first, le-ltb (length store) (y.used + length m) fits) in
      spoken long run (about.Rows r) says ∙ rw found

module _ (q : Papers) (good_papers : GoodPapers q) (x : End) (words marks : List ℕ) (shape : shaped q.envelope words ≡ true) (y : End)
    (same : y.run ≡ x.run) (others those store m : List ℕ) where
  -- ---- a value message

  module _ (n : ℕ) (made : ValuesMade q x words marks n m) where
    abbrev values : List ℕ
    values = rising_values q.envelope words marks (step_of q.program n).right

    step_spoken : receive_with q y others those store m ≡ taken q y others those store m (about.Step n)
    step_spoken =
        spoken q y others those store m (rw made.is (value_front x.run n values))
        (rw made.is (value_run x.run n values ∙ sym same)) (about.Step n)
        (rw made.is (ap (about_of (step_count q.program) (relation_count q.envelope)) (value_second x.run n values))
        ∙ about_step (step_count q.program) (relation_count q.envelope) n made.exists)

    sound : sound_values m ≡ true
    sound = rw made.is (values_sound q.envelope words marks shape x.run n (step_of q.program n).right)

    abbrev ours : Test
    ours = test (not (is_at q.envelope y.site (step_of q.program n).left.relation)) NotOurs 0

    abbrev again : Test
    again =
        test
        (ltb (steps_before q.program (step_of q.program n).left.relation n) (applied_of y (step_of q.program n).left.relation))
        AlreadyTaken 0

    abbrev early : Test
    early =
        test
        (ltb (applied_of y (step_of q.program n).left.relation) (steps_before q.program (step_of q.program n).left.relation n))
        StepMissing 0

    pub values_delivered : (k : Reason) (u : ℕ) → receive_with q y others those store m ≡ bad k u
        → Memᴰ k (NotOurs ∷ AlreadyTaken ∷ StepMissing ∷ []) × (u ≡ 0)
    unfolding taken
    values_delivered k u h =
        let refused : values_taken q y others those m n ≡ bad k u = turned_bad _ (values_taken q y others those m n) k u (sym step_spoken ∙ h) in
        let effect = good (step_effect q y others those m n) 0 in
        refusal_listed (ours ∷ again ∷ early ∷ []) (step_effect q y others those m n) 0 k u (refl, (refl, (refl, tt)))
        (sym (judged_insert (ours ∷ []) (again ∷ early ∷ []) (test (not (sound_values m)) NotSound 0) effect (ap not sound))
        ∙ sym (step_judged q y others those m n)
        ∙ refused)

    -- taken where its relation is and its turn has come
    pub values_arrive : is_at q.envelope y.site (step_of q.program n).left.relation ≡ true
        → steps_before q.program (step_of q.program n).left.relation n ≡ applied_of y (step_of q.program n).left.relation
        → receive_with q y others those store m ≡ good (held q y others those store m (step_effect q y others those m n)) 0
    unfolding taken
    values_arrive here due =
        let r = (step_of q.program n).left.relation in
        let found : values_taken q y others those m n ≡ good (step_effect q y others those m n) 0 =
        step_judged q y others those m n
        ∙ rw (here, sound, le-ltb (steps_before q.program r n) (applied_of y r) (omega arith), le-ltb (applied_of y r) (steps_before q.program r n) (omega arith)) in
        step_spoken ∙ rw found

  -- ---- a row message

  module _ (r : ℕ) (made : RowsMade q x words marks r m) where
    below : r < relation_count q.envelope
    below = here_below q.envelope x.site r made.here

    long : front_length ≤ length m
    long = rw made.is (row_front x.run r (sent_rows q.envelope words marks r))

    own : run_of m ≡ y.run
    own = rw made.is (row_run x.run r (sent_rows q.envelope words marks r) ∙ sym same)

    says : about_of (step_count q.program) (relation_count q.envelope) (second_of m) ≡ about.Rows r
    says =
        let few : step_count q.program ≤ 256 = omega (arith, good_papers.acceptable.count, good_papers.acceptable.whole) in
        rw made.is
        (ap (about_of (step_count q.program) (relation_count q.envelope)) (row_second x.run r (sent_rows q.envelope words marks r)))
        ∙ about_rows (step_count q.program) (relation_count q.envelope) r few below

    whole : counted (length (kept_columns q.envelope r)) m ≡ true
    whole = rw made.is (rows_counted q.envelope words marks words shape r refl x.run)

    abbrev assembles : Test
    assembles = test (not (eqb y.site q.program.site)) NotOurs 0

    abbrev arrived : Test
    arrived = test (has_arrived y r) AlreadyTaken 0

    abbrev full : Test
    full = test (ltb (length store) (y.used + length m)) TooShort 0

    pub rows_delivered : (k : Reason) (u : ℕ) → receive_with q y others those store m ≡ bad k u
        → Memᴰ k (NotOurs ∷ AlreadyTaken ∷ TooShort ∷ []) × (u ≡ 0)
    unfolding taken
    rows_delivered k u h =
        let refused : rows_taken q y store m r ≡ bad k u =
        turned_bad _ (rows_taken q y store m r) k u (sym (spoken q y others those store m long own (about.Rows r) says) ∙ h) in
        let effect = good (rows_effect q y store m r) 0 in
        refusal_listed (assembles ∷ arrived ∷ full ∷ []) (rows_effect q y store m r) 0 k u (refl, (refl, (refl, tt)))
        (sym
        (judged_insert (assembles ∷ []) (arrived ∷ full ∷ []) (test (not (counted (length (kept_columns q.envelope r)) m)) NotSound 0) effect
        (ap not whole))
        ∙ sym (rows_judged q y store m r)
        ∙ refused)

    -- taken at the assembly site where none came before and there is room
    pub rows_arrive : y.site ≡ q.program.site → has_arrived y r ≡ false → y.used + length m ≤ length store
        → receive_with q y others those store m ≡ good (kept q y others those store m (rows_effect q y store m r)) 0
    rows_arrive here first fits = rows_come q y others those store m long own r says here whole first fits
