-- The upper half holds in every state: what is kept and what is sent is kept by the one-place run, after as many steps.
use mathlib.Core.Path.{◌≡◌, refl, sym, ap, ◌∙◌}
use mathlib.Core.Bool.{true}
use mathlib.Core.List.{List, []}
use Prim.Native.Nat.{ℕ, suc, ◌+◌, ◌≤◌, ◌<◌}
use native.Mathlib.Decide.{ℕ_discrete}
use native.Mathlib.Omega.{arith}
use lib.ListN.{length, get_or, set, replicate, length-replicate}
use lib.Seq.{get_or-set_same, get_or-set_other}
use Rattle.ground.specs.Outcome.Outcome.{good}
use Rattle.ground.proofs.CountLaws.{split}
use Rattle.ground.proofs.TestLaws.{and_right}
use Rattle.contents.specs.Parts.{relation_count}
use Rattle.contents.specs.Sites.{is_at}
use Rattle.contents.specs.declared.envelope.Envelope.{Envelope}
use Rattle.paths.specs.Meaning.{Table}
use Rattle.papers.specs.declared.programs.Program.{Program}
use Rattle.tables.specs.Offsets.{row_count, count_in}
use Rattle.semijoin.specs.Local.{passes, opened_in}
use Rattle.tables.specs.Rows.{is_kept, row_of, kept_at}
use Rattle.semijoin.specs.Marks.{reduced_by}
use Rattle.tables.specs.Values.{values_of, rising_values}
use Rattle.semijoin.specs.Promise.{FewerRows, FewerValues}
use Rattle.tables.proofs.RowLaws.{kept_inside, same_counts}
use Rattle.tables.proofs.ValueLaws.{same_values}
use Rattle.semijoin.proofs.PromiseLaws.{promise}
use Rattle.ends.specs.Reducing.{step_count, step_of, steps_before}
use Rattle.ends.specs.Ends.{applied_of, start_of}
use Rattle.ends.specs.Messages.{second_of, body_of, about_of}
use Rattle.station.specs.Making.{sent_rows, make_values_of, make_rows_of}
use Rattle.station.specs.Receiving.{Held, applied_to, with_applied, with_arrived}
use Rattle.ends.specs.declared.messages.About.TheVariants as about
use Rattle.ends.specs.declared.ends.End.{End}
use Rattle.ends.proofs.EndLaws.{here_below, no_steps}
use Rattle.ends.proofs.MessageLaws.{step_below}
use Rattle.demands.specs.Link.{Crew, Allowed, State, Bears, start, Event, Possible, after}
use Rattle.demands.specs.DemandThree.{run_after, UpperMade, Upper}
use Rattle.demands.specs.DemandThree.Made.{values, rows}
use Rattle.demands.proofs.TakenLaws.{SoundAt, Sound, values_by, rows_by}
use Rattle.station.proofs.MakingLaws.{with_values, with_rows}
use Rattle.ends.proofs.ReducingLaws.{before_own, before_mono}
use Rattle.demands.proofs.RunLaws.{run_none, run_step, run_still}
use Rattle.demands.proofs.SoundLaws.{Change}
use Rattle.demands.proofs.SoundLaws.Change.{refused, reduces, arrives}
use Rattle.demands.proofs.StartLaws.{opened_end, opened_marks_lem, holding_next}
use Rattle.demands.proofs.SaidLaws.{value_step, rows_step}

module _ (c : Crew) (w : Allowed c) where
  abbrev e : Envelope
  e = c.papers.envelope

  abbrev p : Program
  p = c.papers.program

  -- of one site, for an end that has applied so many steps of each relation
  abbrev UpperAt : ℕ → Held → Type 0
  UpperAt site h =
      (r n : ℕ) → is_at e site r ≡ true → steps_before p r n ≤ applied_of h.end r
      → FewerRows e r (c.tables site) h.marks c.whole (run_after c n)

  -- the run keeps the same rows of a relation where none of its steps lies between
  still_kept : (r n k i : ℕ) → n ≤ k → steps_before p r k ≤ steps_before p r n → kept_at e c.whole (run_after c n) r i ≡ true
      → kept_at e c.whole (run_after c k) r i ≡ true
  still_kept r n k i h few t = ap (λ (l : List ℕ). is_kept (get_or l i 0)) (run_still c r n k h few) ∙ t

  -- ---- at the openings

  opened_fewer : (site r : ℕ) → site ≤ 7 → is_at e site r ≡ true
      → FewerRows e r (c.tables site) (opened_in e (c.tables site) (is_at e site) (c.lent site)) c.whole (run_after c 0)
  opened_fewer site r small here i t =
      let there : i < count_in e (c.tables site) r = kept_inside e (c.tables site) (opened_in e (c.tables site) (is_at e site) (c.lent site)) r i t in
      let same = w.parts site r here in
      let passed : passes e r (row_of e (c.tables site) r i) ≡ true =
      and_right (is_at e site r) _ (sym ((promise e).opens (c.tables site) (c.lent site) (is_at e site) (w.marks site small) r i there) ∙ t) in
      let also : passes e r (row_of e c.whole r i) ≡ true = rw (ap (λ (rows : Table). get_or rows i []) same) at passed in
      let inside : i < count_in e c.whole r = omega (arith, there, same_counts e (c.tables site) c.whole r same) in
      let z : ℕ = 0 in
      rw (run_none c)
      ((promise e).opens c.whole (replicate (row_count e c.whole) 0) (λ _. true) (omega (arith, length-replicate (row_count e c.whole) z)) r i inside ∙ also)

  pub upper_start : Upper c (start c)
  unfolding start_of
  upper_start =
      record {
        kept = λ site r n small here few i t.
            let none : steps_before p r n ≤ steps_before p r 0 =
            omega (arith, few, ap (λ (x : End). applied_of x r) (opened_end c w site small), no_steps r) in
            still_kept r 0 n i (omega arith) none (opened_fewer site r small here i (rw (opened_marks_lem c w site small) at t));
        made = λ m there. elim there [ ];
      }

  -- ---- making

  module _ (made : List (List ℕ)) (site : ℕ) (small : site ≤ 7) (x : Held) (s : SoundAt c made site x) (up : UpperAt site x) (m : List ℕ) (u : ℕ) where
    upper_values : (n room : ℕ) → make_values_of x.end (c.tables site) x.marks n room ≡ good m u → UpperMade c m
    upper_values n room h =
        let b = (step_of p n).right in
        let by = values_by c w made site small x s n room in
        let (made_by, _, _) = with_values x.end (c.tables site) x.marks n room c.papers m u (sym by ∙ h) in
        let there : is_at e site b.relation ≡ true = rw s.place at made_by.here in
        let fewer : FewerValues (rising_values e (c.tables site) x.marks b) (values_of e c.whole (run_after c n) b) =
        λ v t.
        (promise e).fewer.1 (c.tables site) x.marks c.whole (run_after c n) b (w.parts site b.relation there)
        (up b.relation n there made_by.ready) v (sym (same_values e (c.tables site) x.marks b v) ∙ t) in
        values n (rising_values e (c.tables site) x.marks b) made_by.exists (rw s.run at made_by.is) fewer

    upper_rows : (r room : ℕ) → make_rows_of x.end (c.tables site) x.marks r room ≡ good m u → UpperMade c m
    upper_rows r room h =
        let by = rows_by c w made site small x s r room in
        let (made_by, _, _) = with_rows x.end (c.tables site) x.marks r room c.papers m u (sym by ∙ h) in
        let there : is_at e site r ≡ true = rw s.place at made_by.here in
        rows r (c.tables site) x.marks (here_below e site r there) (rw s.run at made_by.is) (w.parts site r there) (up r (step_count p) there made_by.ready)

  -- ---- receiving

  step_fewer : (m : List ℕ) (n : ℕ) → about_of (step_count p) (relation_count e) (second_of m) ≡ about.Step n → UpperMade c m
      → FewerValues (body_of m) (values_of e c.whole (run_after c n) (step_of p n).right)
  step_fewer m n spoken (values k vs few is fewer) =
      let (same, body) = value_step c w m k vs few is n spoken in
      rw body (rw same at fewer)
  step_fewer m n spoken (rows r words marks few is same fewer) = absurd (rows_step c w m r (sent_rows e words marks r) few is n spoken)

  module _ (site : ℕ) (x : Held) (up : UpperAt site x) (m : List ℕ) (n : ℕ) (few : n < step_count p)
      (fewer : FewerValues (body_of m) (values_of e c.whole (run_after c n) (step_of p n).right))
      (here : is_at e site (step_of p n).left.relation ≡ true)
      (next : applied_of x.end (step_of p n).left.relation ≡ steps_before p (step_of p n).left.relation n) where
    abbrev q : ℕ
    q = (step_of p n).left.relation

    abbrev marks_after_step : List ℕ
    marks_after_step = reduced_by e (c.tables site) (body_of m) (step_of p n).left x.marks

    -- the relation of the step, against the run before it and behind it
    reduced : (k : ℕ) → steps_before p q k ≤ applied_of x.end q + 1 → FewerRows e q (c.tables site) marks_after_step c.whole (run_after c k)
    reduced k h i t = split (suc n) k behind before
      where
        before : k < suc n → kept_at e c.whole (run_after c k) q i ≡ true
        before l =
            up q k here (omega (arith, next, before_mono p q k n (omega arith))) i
            ((promise e).adds_none (c.tables site) (body_of m) x.marks (step_of p n).left q i t)

        behind : suc n ≤ k → kept_at e c.whole (run_after c k) q i ≡ true
        behind l =
            still_kept q (suc n) k i l (omega (arith, h, next, before_own p q n few refl))
            (rw (run_step c n few)
            ((promise e).fewer.0 (c.tables site) x.marks c.whole (run_after c n) (body_of m)
            (values_of e c.whole (run_after c n) (step_of p n).right) (step_of p n).left (w.parts site q here)
            (up q n here (omega (arith, next))) fewer i t))

    -- and every relation
    reduced_all : (applied : List ℕ) → q < length x.end.applied → applied ≡ set x.end.applied q (applied_of x.end q + 1) → (r k : ℕ)
        → is_at e site r ≡ true → steps_before p r k ≤ get_or applied r 0 → FewerRows e r (c.tables site) marks_after_step c.whole (run_after c k)
    reduced_all applied small is r k there h = go (ℕ_discrete r q)
      where
        go : Dec (r ≡ (step_of p n).left.relation) → FewerRows e r (c.tables site) marks_after_step c.whole (run_after c k)
        go (yes t) =
            let many : steps_before p q k ≤ applied_of x.end q + 1 =
            omega (
              arith,
              rw t at h,
              ap (λ (l : List ℕ). get_or l q 0) is,
              get_or-set_same x.end.applied q (applied_of x.end q + 1) 0 small,
            ) in
            rw t (reduced k many)
        go (no t) = λ i kept.
            let many : steps_before p r k ≤ applied_of x.end r =
            omega (
              arith,
              h,
              ap (λ (l : List ℕ). get_or l r 0) is,
              get_or-set_other x.end.applied q r (applied_of x.end q + 1) 0 t,
            ) in
            up r k there many i
            (sym (ap (λ (l : List ℕ). is_kept (get_or l i 0)) ((promise e).others_stay (c.tables site) (body_of m) x.marks (step_of p n).left r t)) ∙ kept)

  upper_change : (made : List (List ℕ)) (site : ℕ) (x : Held) (store m : List ℕ) → SoundAt c made site x → UpperAt site x → (Bears c.run m → UpperMade c m)
      → (h : Held) → Change c site x store m h → UpperAt site h
  unfolding with_applied applied_to with_arrived
  upper_change made site x store m s up sent h (refused is) = rw is up
  upper_change made site x store m s up sent h (arrives r spoken own here whole new room is) = rw is up
  upper_change made site x store m s up sent h (reduces n spoken own here next is) =
      let few : n < step_count p = step_below (step_count p) (relation_count e) (second_of m) n spoken in
      let q = (step_of p n).left.relation in
      let eight : relation_count e ≤ 8 = omega arith in
      let small : q < length x.end.applied = omega (arith, eight, s.eight, here_below e site q here) in
      rw is
      (reduced_all site x up m n few (step_fewer m n spoken (sent own)) here next (set x.end.applied q (applied_of x.end q + 1)) small refl)

  -- ---- every event

  pub upper_next : (s : State) (x : Event) → Sound c s → Upper c s → Possible c s x → Upper c (after c s x)
  upper_next s x sound up possible =
      let (kept, made) =
      holding_next c w UpperAt (UpperMade c) upper_values upper_rows upper_change s x sound possible (λ site small r n. up.kept site r n small, up.made) in
      record { kept = λ site r n small. kept site small r n; made = made }
