-- 16,400 words of store hold every run: a row message that comes to the assembly site, lent so much, has arrived afterwards.
use mathlib.Core.Path.{◌≡◌, refl, sym, ap, ◌∙◌}
use mathlib.Core.Bool.{Bool, true, false, false≢true}
use mathlib.Core.List.{List, [], Memᴰ}
use mathlib.Core.Logic.{inl}
use Prim.Native.Nat.{ℕ, ◌+◌, ◌≤◌, ◌<◌}
use native.Mathlib.Nat.{min-le_left}
use native.Mathlib.Decide.{ℕ_discrete}
use native.Mathlib.Omega.{arith}
use lib.ListN.{length, get_or, set}
use lib.Seq.{sets, get_or-set_same, get_or-set_other}
use Rattle.ground.specs.Outcome.{Outcome}
use Rattle.ground.specs.Outcome.Outcome.{good}
use Rattle.ground.proofs.OutcomeLaws.{leaves_good}
use Rattle.contents.specs.Parts.{relation_count}
use Rattle.contents.specs.Kept.{kept_columns}
use Rattle.contents.specs.declared.envelope.Envelope.{Envelope}
use Rattle.papers.specs.declared.programs.Program.{Program}
use Rattle.ends.specs.Reducing.{step_count}
use Rattle.ends.specs.Ends.{has_arrived, start_of}
use Rattle.ends.specs.Messages.{run_of, second_of, about_of, counted}
use Rattle.station.specs.Making.{sent_rows}
use Rattle.station.specs.Receiving.{Held, applied_to, with_applied, with_arrived, receive_of}
use Rattle.ends.specs.declared.messages.About.TheVariants as about
use Rattle.ends.specs.declared.ends.End.{End}
use Rattle.ends.proofs.MessageLaws.{about_rows, rows_below, row_run, row_front}
use Rattle.station.proofs.MadeLaws.{rows_counted}
use Rattle.station.proofs.DeliveredLaws.{rows_come}
use Rattle.station.proofs.RoomLaws.{most_of, message_most, most_held, held_within, room_suffices}
use Rattle.demands.specs.Link.{Crew, Allowed, State, Bears, site_opened, start, Event, Possible, with_taken, lent_store, after}
use Rattle.demands.specs.Link.Event.{makes_values, makes_rows, comes}
use Rattle.demands.specs.DemandThree.{LowerMade, Lower}
use Rattle.demands.specs.DemandThree.Made.{values, rows}
use Rattle.demands.proofs.TakenLaws.{SoundAt, Sound, received}
use Rattle.demands.proofs.SoundLaws.{Change, changes, taken_here, taken_at, rows_any}
use Rattle.demands.proofs.SoundLaws.Change.{refused, reduces, arrives}
use Rattle.demands.proofs.StartLaws.{opened_end, made_cases, own_made}
use Rattle.demands.proofs.SaidLaws.{steps_few, value_rows, rows_rows}
use Rattle.demands.proofs.ReadyLaws.{assembly_few}

module _ (c : Crew) (w : Allowed c) where
  abbrev e : Envelope
  e = c.papers.envelope

  abbrev p : Program
  p = c.papers.program

  -- ---- a row message that was made

  -- it is no longer than its relation's row message can be, and sound
  row_known : (m : List ℕ) (r : ℕ) → LowerMade c m → about_of 0 (relation_count e) (second_of m) ≡ about.Rows r
      → (length m ≤ most_of e c.whole r) × (counted (length (kept_columns e r)) m ≡ true) × (run_of m ≡ c.run) × (3 ≤ length m)
  row_known m r (values n vs few is holds) spoken = absurd (value_rows c w m n vs few is r spoken)
  row_known m r (rows k words marks few is same covers) spoken =
      let t : k ≡ r = rows_rows c w m k (sent_rows e words marks k) few is r spoken in
      rw (← t, is) (
        message_most e c.whole words marks c.run k same,
        rows_counted e words marks c.whole w.sizes k same c.run,
        row_run c.run k (sent_rows e words marks k),
        row_front c.run k (sent_rows e words marks k),
      )

  -- ---- the used words are no more than the messages that arrived can have

  abbrev pub RoomAt : Held → Type 0
  RoomAt h = h.end.used ≤ most_held e c.whole (has_arrived h.end) (relation_count e)

  abbrev pub Roomy : State → Type 0
  Roomy s = (site : ℕ) → site ≤ 7 → RoomAt (s.at site)

  pub room_start : Roomy (start c)
  unfolding start_of
  room_start site small =
      let none : (site_opened c site).end.used ≡ 0 = ap (λ (x : End). x.used) (opened_end c w site small) in
      omega (arith, none)

  room_change : (made : List (List ℕ)) (site : ℕ) (x : Held) (store m : List ℕ) → SoundAt c made site x → RoomAt x
      → (Bears c.run m → LowerMade c m) → (h : Held) → Change c site x store m h → RoomAt h
  unfolding with_applied applied_to
  room_change made site x store m s fits sent h (refused is) = rw is fits
  room_change made site x store m s fits sent h (reduces n spoken own here next is) = rw is fits
  room_change made site x store m s fits sent h (arrives r spoken own here whole new room is) =
      let said = rows_any (step_count p) (relation_count e) (second_of m) r spoken in
      rw is
      (held_within e c.whole x.end fits m r (rows_below (step_count p) (relation_count e) (second_of m) r spoken) new
      (row_known m r (sent own) said).0 s.arrivals)

  pub room_next : (s : State) (x : Event) → Sound c s → Lower c s → Roomy s → Possible c s x → Roomy (after c s x)
  unfolding after
  room_next s (makes_values site n room) sound low fits small = made_cases s Roomy _ fits λ m u h. fits
  room_next s (makes_rows site r room) sound low fits small = made_cases s Roomy _ fits λ m u h. fits
  room_next s (comes site m behind) sound low fits (small, which) =
      let store = lent_store (s.at site) behind in
      let o = receive_of (s.at site).end (c.tables site) (s.at site).marks store m in
      taken_at s site store o (λ _ h. RoomAt h) fits
      (room_change s.made site (s.at site) store m (sound site small) (fits site small) (λ own. low.made m (own_made c s m which own)) _
      (changes c w s.made site small (s.at site) (sound site small) store m))

  -- ---- a row message that comes

  module _ (s : State) (sound : Sound c s) (low : Lower c s) (fits : Roomy s) (r : ℕ) (few : r < relation_count e) (m behind : List ℕ)
      (there : Memᴰ m s.made) (second : second_of m ≡ 256 + r) where
    abbrev x : Held
    x = s.at c.papers.program.site

    abbrev store : List ℕ
    store = lent_store x behind

    s_at : SoundAt c s.made p.site x
    s_at = sound p.site (assembly_few c w)

    said : about_of 0 (relation_count e) (second_of m) ≡ about.Rows r
    said = ap (about_of 0 (relation_count e)) second ∙ about_rows 0 (relation_count e) r (omega arith) few

    spoken : about_of (step_count p) (relation_count e) (second_of m) ≡ about.Rows r
    spoken = ap (about_of (step_count p) (relation_count e)) second ∙ about_rows (step_count p) (relation_count e) r (omega (arith, steps_few c w)) few

    abbrev now : Held
    now = record { end = with_arrived x.end r (length m); marks = x.marks; store = sets store x.end.used m }

    enough : has_arrived x.end r ≡ false → x.end.used + length m ≤ 16400
    enough new =
        room_suffices e c.whole x.end (fits p.site (assembly_few c w)) m r few new (row_known m r (low.made m there) said).0 s_at.arrivals w.sizes

    came : x.end.used + length m ≤ length store → has_arrived x.end r ≡ false
        → receive_of x.end (c.tables p.site) x.marks store m ≡ good now 0
    came wide new =
        let (_, whole, own, three) = row_known m r (low.made m there) said in
        received c w s.made p.site (assembly_few c w) x s_at store m
        ∙ rows_come c.papers x.end (c.tables p.site) x.marks store m three (own ∙ sym s_at.run) r spoken s_at.place whole new
        wide

    now_arrived : has_arrived now.end r ≡ true
    unfolding with_arrived
    now_arrived =
        let eight : relation_count e ≤ 8 = min-le_left 8 e.relation_count in
        get_or-set_same x.end.arrived r true false (omega (arith, s_at.arrivals, few, eight))

  -- once arrived it stays so
  stays_change : (site : ℕ) (x : Held) (store m : List ℕ) (r : ℕ) → has_arrived x.end r ≡ true → (h : Held) → Change c site x store m h → has_arrived h.end r ≡ true
  unfolding with_applied applied_to with_arrived
  stays_change site x store m r t h (refused is) = rw is t
  stays_change site x store m r t h (reduces n spoken own here next is) = rw is t
  stays_change site x store m r t h (arrives k spoken own here whole new room is) = rw is (go (ℕ_discrete r k))
    where
      go : Dec (r ≡ k) → get_or (set x.end.arrived k true) r false ≡ true
      go (yes z) = absurd (false≢true (sym new ∙ ap (has_arrived x.end) (sym z) ∙ t))
      go (no z) = get_or-set_other x.end.arrived k r true false z ∙ t

  pub arrived_stays : (s : State) (y : Event) → Sound c s → Possible c s y → (site : ℕ) → site ≤ 7 → (r : ℕ) → has_arrived (s.at site).end r ≡ true
      → has_arrived ((after c s y).at site).end r ≡ true
  unfolding after
  arrived_stays s (makes_values at n room) sound small site l r t = made_cases s (λ (z : State). has_arrived (z.at site).end r ≡ true) _ t λ m u h. t
  arrived_stays s (makes_rows at k room) sound small site l r t = made_cases s (λ (z : State). has_arrived (z.at site).end r ≡ true) _ t λ m u h. t
  arrived_stays s (comes at m behind) sound (small, which) site l r t =
      let store = lent_store (s.at at) behind in
      let o = receive_of (s.at at).end (c.tables at) (s.at at).marks store m in
      taken_at s at store o (λ k h. has_arrived (s.at k).end r ≡ true → has_arrived h.end r ≡ true) (λ k _ z. z)
      (λ z. stays_change at (s.at at) store m r z _ (changes c w s.made at small (s.at at) (sound at small) store m)) site l t

  pub row_arrives : (s : State) → Sound c s → Lower c s → Roomy s → (r : ℕ) → r < relation_count e → (m behind : List ℕ) → Memᴰ m s.made
      → second_of m ≡ 256 + r → (s.at p.site).end.used + length m ≤ length (lent_store (s.at p.site) behind)
      → has_arrived ((after c s (comes p.site m behind)).at p.site).end r ≡ true
  unfolding after
  row_arrives s sound low fits r few m behind there second wide = go (has_arrived (s.at p.site).end r) refl
    where
      go : (b : Bool) → has_arrived (s.at p.site).end r ≡ b → has_arrived ((after c s (comes p.site m behind)).at p.site).end r ≡ true
      go true t = arrived_stays s (comes p.site m behind) sound (assembly_few c w, inl there) p.site (assembly_few c w) r t
      go false t =
          let y = s.at p.site in
          let store = lent_store y behind in
          ap (λ (o : Outcome Held). has_arrived ((with_taken s p.site store o).at p.site).end r) (came s sound low fits r few m behind there second wide t)
          ∙ ap (λ (h : Held). has_arrived h.end r)
          (taken_here s p.site store (good (now s sound low fits r few m behind there second) 0)
          ∙ leaves_good (λ (h : Held). h) (record { end = y.end; marks = y.marks; store = store }) (now s sound low fits r few m behind there second) 0)
          ∙ now_arrived s sound low fits r few m behind there second

  pub row_suffices : (s : State) → Sound c s → Lower c s → Roomy s → (r : ℕ) → r < relation_count e → has_arrived (s.at p.site).end r ≡ false
      → (m : List ℕ) → Memᴰ m s.made → second_of m ≡ 256 + r → (s.at p.site).end.used + length m ≤ 16400
  row_suffices s sound low fits r few new m there second = enough s sound low fits r few m [] there second new
