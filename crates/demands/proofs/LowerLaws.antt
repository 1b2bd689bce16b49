-- The lower half holds in every state: no row that takes part in an answer is lost, at any site or in any message.
use mathlib.Core.Path.{◌≡◌, sym, ap, ◌∙◌}
use mathlib.Core.Bool.{true}
use mathlib.Core.List.{List}
use Prim.Native.Nat.{ℕ, ◌≤◌, ◌<◌}
use native.Mathlib.Decide.{ℕ_discrete}
use lib.ListN.{get_or}
use Rattle.ground.specs.Outcome.Outcome.{good}
use Rattle.ground.proofs.TestLaws.{and_both}
use Rattle.contents.specs.Parts.{relation_count}
use Rattle.contents.specs.Sites.{is_at}
use Rattle.contents.specs.declared.envelope.Envelope.{Envelope}
use Rattle.paths.specs.Meaning.{word_in}
use Rattle.papers.specs.declared.programs.Program.{Program}
use Rattle.paths.proofs.StepLaws.{legal_step}
use Rattle.tables.specs.Offsets.{count_in}
use Rattle.tables.specs.Rows.{is_kept, row_of, kept_at}
use Rattle.semijoin.specs.Marks.{reduced_by}
use Rattle.tables.specs.Values.{rising_values}
use Rattle.semijoin.specs.Promise.{Needed, Covers, Holds}
use Rattle.tables.proofs.ValueLaws.{same_values}
use Rattle.semijoin.proofs.PromiseLaws.{promise}
use Rattle.ends.specs.Reducing.{step_count, step_of}
use Rattle.ends.specs.Messages.{second_of, body_of, about_of}
use Rattle.station.specs.Making.{sent_rows, make_values_of, make_rows_of}
use Rattle.station.specs.Receiving.{Held}
use Rattle.ends.specs.declared.messages.About.TheVariants as about
use Rattle.ends.proofs.EndLaws.{here_below}
use Rattle.ends.proofs.MessageLaws.{step_below}
use Rattle.demands.specs.Link.{Crew, Allowed, State, Bears, start, Event, Possible, after}
use Rattle.demands.specs.DemandThree.{LowerMade, Lower}
use Rattle.demands.specs.DemandThree.Made.{values, rows}
use Rattle.demands.proofs.TakenLaws.{SoundAt, Sound, values_by, rows_by}
use Rattle.station.proofs.MakingLaws.{with_values, with_rows}
use Rattle.demands.proofs.SoundLaws.{Change}
use Rattle.demands.proofs.SoundLaws.Change.{refused, reduces, arrives}
use Rattle.demands.proofs.StartLaws.{opened_marks_lem, holding_next}
use Rattle.demands.proofs.SaidLaws.{step_legal, value_step, rows_step}

module _ (c : Crew) (w : Allowed c) where
  abbrev e : Envelope
  e = c.papers.envelope

  abbrev p : Program
  p = c.papers.program

  -- of one site
  abbrev LowerAt : ℕ → Held → Type 0
  LowerAt site h = (r : ℕ) → is_at e site r ≡ true → Covers e c.whole (c.tables site) h.marks r

  pub lower_start : Lower c (start c)
  lower_start =
      record {
        kept = λ site r small here i h needed.
            rw (opened_marks_lem c w site small)
            ((promise e).opens (c.tables site) (c.lent site) (is_at e site) (w.marks site small) r i h
            ∙ and_both here ((promise e).needed_passes c.whole r (row_of e (c.tables site) r i) needed));
        made = λ m there. elim there [ ];
      }

  -- ---- making

  module _ (made : List (List ℕ)) (site : ℕ) (small : site ≤ 7) (x : Held) (s : SoundAt c made site x) (low : LowerAt site x) (m : List ℕ) (u : ℕ) where
    lower_values : (n room : ℕ) → make_values_of x.end (c.tables site) x.marks n room ≡ good m u → LowerMade c m
    lower_values n room h =
        let b = (step_of p n).right in
        let by = values_by c w made site small x s n room in
        let (made_by, _, _) = with_values x.end (c.tables site) x.marks n room c.papers m u (sym by ∙ h) in
        let there : is_at e site b.relation ≡ true = rw s.place at made_by.here in
        let whole : Holds e c.whole (rising_values e (c.tables site) x.marks b) b =
        λ row needed.
        same_values e (c.tables site) x.marks b (word_in row b.column)
        ∙ (promise e).needed_values c.whole (c.tables site) x.marks b (legal_step e (step_of p n) (step_legal c w n made_by.exists)).right
        (w.parts site b.relation there) (low b.relation there) row needed in
        values n (rising_values e (c.tables site) x.marks b) made_by.exists (rw s.run at made_by.is) whole

    lower_rows : (r room : ℕ) → make_rows_of x.end (c.tables site) x.marks r room ≡ good m u → LowerMade c m
    lower_rows r room h =
        let by = rows_by c w made site small x s r room in
        let (made_by, _, _) = with_rows x.end (c.tables site) x.marks r room c.papers m u (sym by ∙ h) in
        let there : is_at e site r ≡ true = rw s.place at made_by.here in
        rows r (c.tables site) x.marks (here_below e site r there) (rw s.run at made_by.is) (w.parts site r there) (low r there)

  -- ---- receiving

  step_holds : (m : List ℕ) (n : ℕ) → about_of (step_count p) (relation_count e) (second_of m) ≡ about.Step n → LowerMade c m
      → Holds e c.whole (body_of m) (step_of p n).right
  step_holds m n spoken (values k vs few is holds) =
      let (same, body) = value_step c w m k vs few is n spoken in
      rw body (rw same at holds)
  step_holds m n spoken (rows r words marks few is same covers) = absurd (rows_step c w m r (sent_rows e words marks r) few is n spoken)

  lower_change : (site : ℕ) (x : Held) (store m : List ℕ) → LowerAt site x → (Bears c.run m → LowerMade c m) → (h : Held)
      → Change c site x store m h → LowerAt site h
  lower_change site x store m low sent h (refused is) = rw is low
  lower_change site x store m low sent h (arrives r spoken own here whole new room is) = rw is low
  lower_change site x store m low sent h (reduces n spoken own here next is) = rw is λ r there i l needed. one r i (ℕ_discrete r (step_of p n).left.relation) there l needed
    where
      few : n < step_count p
      few = step_below (step_count p) (relation_count e) (second_of m) n spoken

      one : (r i : ℕ) → Dec (r ≡ (step_of p n).left.relation) → is_at e site r ≡ true → i < count_in e (c.tables site) r
          → Needed e c.whole r (row_of e (c.tables site) r i)
          → kept_at e (c.tables site) (reduced_by e (c.tables site) (body_of m) (step_of p n).left x.marks) r i ≡ true
      one r i (yes t) there l needed =
          let own_row : Needed e c.whole (step_of p n).left.relation (row_of e (c.tables site) (step_of p n).left.relation i) = rw t at needed in
          let was : kept_at e (c.tables site) x.marks (step_of p n).left.relation i ≡ true = rw t at (low r there i l needed) in
          rw t
          ((promise e).needed_stay c.whole (c.tables site) (body_of m) x.marks (step_of p n) (step_legal c w n few)
          (step_holds m n spoken (sent own)) i own_row was)
      one r i (no t) there l needed =
          ap (λ (l : List ℕ). is_kept (get_or l i 0)) ((promise e).others_stay (c.tables site) (body_of m) x.marks (step_of p n).left r t)
          ∙ low r there i l needed

  -- ---- every event

  pub lower_next : (s : State) (x : Event) → Sound c s → Lower c s → Possible c s x → Lower c (after c s x)
  lower_next s x sound low possible =
      let (kept, made) =
      holding_next c w LowerAt (LowerMade c) lower_values lower_rows (λ made site y store m _. lower_change site y store m) s x sound possible
      (λ site small r. low.kept site r small, low.made) in
      record { kept = λ site r small. kept site small r; made = made }
