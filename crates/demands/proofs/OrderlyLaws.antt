-- In order every call is taken: all steps one after the other, and then each relation's row message.
use mathlib.Core.Path.{◌≡◌, refl, sym, ap, ◌∙◌}
use mathlib.Core.Bool.{true, false}
use mathlib.Core.List.Memᴰ
use mathlib.Core.List.{List, [], ◌∷◌, ◌++◌}
use mathlib.Core.Logic.{inl}
use Prim.Native.Nat.{ℕ, zero, suc, ◌+◌, ◌≤◌, ◌<◌}
use native.Mathlib.Decide.{ℕ_discrete}
use native.Mathlib.Omega.{arith}
use lib.ListN.{length, replicate}
use lib.Seq.{sets, get_or-set_same, get_or-set_other}
use Rattle.ground.specs.Lists.{below, numbers_from}
use Rattle.ground.specs.Outcome.Outcome.{good}
use Rattle.ground.proofs.CountLaws.{split}
use Rattle.ground.proofs.OutcomeLaws.{leaves_good}
use Rattle.contents.specs.Parts.{relation_count}
use Rattle.contents.specs.Sites.{site_of, is_at}
use Rattle.contents.specs.declared.envelope.Envelope.{Envelope}
use Rattle.papers.specs.declared.programs.Program.{Program}
use Rattle.tables.specs.Shape.{shaped}
use Rattle.tables.proofs.ShapeLaws.{shaped_shape, words_fit}
use Rattle.ends.specs.Reducing.{step_count, steps_before}
use Rattle.ends.specs.Ends.{applied_of, has_arrived, start_of}
use Rattle.ends.specs.Messages.{row_message}
use Rattle.station.specs.Making.{make_rows_of, sent_rows}
use Rattle.station.specs.Receiving.{Held, with_arrived, taken, receive_of}
use Rattle.ends.specs.declared.ends.End.{End}
use Rattle.ends.proofs.EndLaws.{no_steps, none_arrived}
use Rattle.station.proofs.MakingLaws.{RowsMade, rows_go}
use Rattle.station.proofs.DeliveredLaws.{rows_arrive}
use Rattle.station.proofs.RoomLaws.{message_most}
use Rattle.demands.specs.Link.{Crew, Allowed, State, start, Event, Possible, with_made, with_taken, lent_store, after, after_events, Follows}
use Rattle.demands.specs.Orderly.{sends_step, brings_step, sends_rows, brings_rows, in_turn, in_order, IsTaken, AllTaken, Happens, InOrder}
use Rattle.demands.proofs.TakenLaws.{SoundAt, Sound, received, good_papers, rows_by}
use Rattle.demands.proofs.SoundLaws.{taken_here, taken_there}
use Rattle.demands.proofs.StartLaws.{opened, opening_good, opened_end, sound_start, sound_next}
use Rattle.demands.proofs.ReadyLaws.{at_own, site_few, assembly_few, Ready, lent_room, step_done}
use Rattle.paths.specs.Meaning.{Table}
use Rattle.ends.proofs.ReducingLaws.{before_most}

-- ---- one relation

module _ (c : Crew) (w : Allowed c) (room : ℕ) (wide : 16400 ≤ room) where
  abbrev e : Envelope
  e = c.papers.envelope

  abbrev p : Program
  p = c.papers.program

  abbrev A : ℕ
  A = c.papers.program.site

  module _ (k : ℕ) (few : k < relation_count e) (s : State) (ready : Ready c w (step_count p) k s) where
    abbrev sender : ℕ
    sender = site_of e k

    abbrev from : Held
    from = s.at sender

    abbrev to : Held
    to = s.at A

    s_from : SoundAt c s.made sender from
    s_from = ready.sound sender (site_few c w k few)

    s_to : SoundAt c s.made A to
    s_to = ready.sound A (assembly_few c w)

    shape : shaped e (c.tables sender) ≡ true
    shape = w.shapes sender (site_few c w k few)

    abbrev rows : Table
    rows = sent_rows e (c.tables sender) from.marks k

    abbrev sent : List ℕ
    sent = row_message from.end.run k rows

    sent_few : length sent ≤ room
    sent_few =
        let words = c.tables sender in
        omega (
          arith,
          wide,
          message_most e words words from.marks from.end.run k refl,
          words_fit e words (shaped_shape e words shape) k few,
          (shaped_shape e words shape).within,
        )

    made_by : RowsMade c.papers from.end (c.tables sender) from.marks k sent
    made_by =
        record {
          here = rw s_from.place (at_own c w k few);
          ready = omega (arith, ready.applied sender k (site_few c w k few) (at_own c w k few));
          is = refl;
        }

    made : make_rows_of from.end (c.tables sender) from.marks k room ≡ good sent (length sent)
    made =
        rows_by c w s.made sender (site_few c w k few) from s_from k room
        ∙ rows_go from.end (c.tables sender) from.marks k room c.papers sent made_by sent_few

    abbrev mid : State
    mid = record { at = s.at; made = sent ∷ s.made }

    after_made : after c s (sends_rows c room k) ≡ mid
    unfolding after with_made
    after_made = rw made

    abbrev store : List ℕ
    store = lent_store to (replicate room 0)

    abbrev now : Held
    now = record { end = with_arrived to.end k (length sent); marks = to.marks; store = sets store to.end.used sent }

    came : receive_of to.end (c.tables A) to.marks store sent ≡ good now 0
    came =
        received c w s.made A (assembly_few c w) to s_to store sent
        ∙ rows_arrive c.papers (good_papers c w) from.end (c.tables sender) from.marks shape to.end (s_to.run ∙ sym s_from.run)
        (c.tables A) to.marks store sent k made_by s_to.place (ready.awaited k (omega arith))
        (omega (arith, lent_room c w to room s_to.used, sent_few))

    abbrev then : State
    then = with_taken mid A store (good now 0)

    after_came : after c mid (brings_rows c room mid k) ≡ then
    unfolding after
    after_came = ap (with_taken mid A store) came

    now_there : then.at A ≡ now
    now_there = taken_here mid A store (good now 0) ∙ leaves_good (λ (h : Held). h) (record { end = to.end; marks = to.marks; store = store }) now 0

    then_sound : Sound c then
    then_sound =
        let one : Sound c mid = rw after_made at (sound_next c w s (sends_rows c room k) ready.sound (site_few c w k few)) in
        rw after_came at (sound_next c w mid (brings_rows c room mid k) one (assembly_few c w, inl (Memᴰ.head refl)))

    now_applied : (r : ℕ) → applied_of now.end r ≡ applied_of to.end r
    unfolding with_arrived
    now_applied r = refl

    now_arrived : has_arrived now.end k ≡ true
    unfolding with_arrived
    now_arrived = let eight : relation_count e ≤ 8 = omega arith in get_or-set_same to.end.arrived k true false (omega (arith, s_to.arrivals, few, eight))

    now_others : (r : ℕ) → (r ≡ k → ⊥) → has_arrived now.end r ≡ has_arrived to.end r
    unfolding with_arrived
    now_others r d = get_or-set_other to.end.arrived k r true false d

    then_ready : Ready c w (step_count p) (suc k) then
    then_ready =
        record {
          sound = then_sound;
          applied = λ site r small here. at_site site r small here (ℕ_discrete site A);
          here = λ r h. ap (λ (x : Held). has_arrived x.end r) now_there ∙ arrived r h (ℕ_discrete r k);
          awaited = λ r h.
              ap (λ (x : Held). has_arrived x.end r) now_there
              ∙ now_others r (λ z. absurd (omega (arith, h, z)))
              ∙ ready.awaited r (omega (arith, h));
        }
      where
        at_site : (site r : ℕ) → site ≤ 7 → is_at e site r ≡ true → Dec (site ≡ c.papers.program.site)
            → applied_of (then.at site).end r ≡ steps_before p r (step_count p)
        at_site site r small here (yes t) =
            ap (λ (i : ℕ). applied_of (then.at i).end r) t ∙ ap (λ (x : Held). applied_of x.end r) now_there ∙ now_applied r
            ∙ ready.applied A r (assembly_few c w) (rw t at here)
        at_site site r small here (no t) =
            ap (λ (x : Held). applied_of x.end r) (taken_there mid A store (good now 0) site t) ∙ ready.applied site r small here

        arrived : (r : ℕ) → r < suc k → Dec (r ≡ k) → has_arrived now.end r ≡ true
        arrived r h (yes t) = ap (has_arrived now.end) t ∙ now_arrived
        arrived r h (no t) = now_others r t ∙ ready.here r (split k r (λ l. absurd (t (omega arith))) (λ l. l))

    rows_done : Possible c s (sends_rows c room k) × IsTaken c s (sends_rows c room k)
        × Possible c (after c s (sends_rows c room k)) (brings_rows c room (after c s (sends_rows c room k)) k)
        × IsTaken c (after c s (sends_rows c room k)) (brings_rows c room (after c s (sends_rows c room k)) k)
        × Ready c w (step_count p) (suc k) (after c (after c s (sends_rows c room k)) (brings_rows c room (after c s (sends_rows c room k)) k))
    rows_done =
        rw after_made (
          site_few c w k few,
          (sent, length sent, made),
          (assembly_few c w, inl (Memᴰ.head refl)),
          (now, 0, came),
          rw after_came then_ready,
        )

  -- ---- all of them

  -- some events from a state are possible and taken, and lead to a state of which something holds
  abbrev Goes : State → List Event → (State → Type 0) → Type 0
  Goes s xs Q = Follows c s xs × AllTaken c s xs × Q (after_events c s xs)

  all_steps : (d n : ℕ) (s : State) → n + d ≡ step_count p → Ready c w n 0 s → Goes s (in_turn c (sends_step c room) (brings_step c room) s (numbers_from n d)) (Ready c w (step_count p) 0)
  unfolding numbers_from in_turn
  all_steps zero n s end ready = let z : n ≡ step_count p = omega arith in (tt, tt, rw z at ready)
  all_steps (suc d) n s end ready =
      let (first, sent, second, came, next) = step_done c w room wide n (omega arith) s ready in
      let one : n + 1 ≡ suc n = omega arith in
      let mid = after c s (sends_step c room n) in
      let then = after c mid (brings_step c room mid n) in
      let ready-next : Ready c w (n + 1) 0 then = rw one next in
      let (follows, taken, last) = all_steps d (n + 1) then (omega arith) ready-next in
      ((first, (second, follows)), (sent, (came, taken)), last)

  all_rows : (d k : ℕ) (s : State) → k + d ≡ relation_count e → Ready c w (step_count p) k s
      → Goes s (in_turn c (sends_rows c room) (brings_rows c room) s (numbers_from k d)) (Ready c w (step_count p) (relation_count e))
  unfolding numbers_from in_turn
  all_rows zero k s end ready = let z : k ≡ relation_count e = omega arith in (tt, tt, rw z at ready)
  all_rows (suc d) k s end ready =
      let (first, sent, second, came, next) = rows_done k (omega arith) s ready in
      let one : k + 1 ≡ suc k = omega arith in
      let mid = after c s (sends_rows c room k) in
      let then = after c mid (brings_rows c room mid k) in
      let ready-next : Ready c w (step_count p) (k + 1) then = rw one next in
      let (follows, taken, last) = all_rows d (k + 1) then (omega arith) ready-next in
      ((first, (second, follows)), (sent, (came, taken)), last)

  start_ready : Ready c w 0 0 (start c)
  unfolding start_of
  start_ready =
      record {
        sound = λ site small. sound_start c w site small;
        applied = λ site r small here. ap (λ (x : End). applied_of x r) (opened_end c w site small) ∙ no_steps r ∙ sym (none_before r);
        here = λ r h. absurd (omega arith);
        awaited = λ r h. ap (λ (x : End). has_arrived x r) (opened_end c w A (assembly_few c w)) ∙ none_arrived r;
      }
    where
      none_before : (r : ℕ) → steps_before p r 0 ≡ 0
      none_before r = omega (arith, before_most p r 0)

  -- one list of events after another
  follows_all : (xs ys : List Event) (s : State) → Follows c s xs → Follows c (after_events c s xs) ys → Follows c s (xs ++ ys)
  follows_all [] ys s f g = g
  follows_all (x ∷ xs) ys s f g = (f.0, follows_all xs ys (after c s x) f.1 g)

  taken_all : (xs ys : List Event) (s : State) → AllTaken c s xs → AllTaken c (after_events c s xs) ys → AllTaken c s (xs ++ ys)
  taken_all [] ys s f g = g
  taken_all (x ∷ xs) ys s f g = (f.0, taken_all xs ys (after c s x) f.1 g)

  after_append : (xs ys : List Event) (s : State) → after_events c s (xs ++ ys) ≡ after_events c (after_events c s xs) ys
  after_append [] ys s = refl
  after_append (x ∷ xs) ys s = after_append xs ys (after c s x)

  pub happens : Happens c room
  unfolding in_order
  happens =
      let zero_more : 0 + step_count p ≡ step_count p = omega arith in
      let none_yet : 0 + relation_count e ≡ relation_count e = omega arith in
      let steps = in_turn c (sends_step c room) (brings_step c room) (start c) (below (step_count p)) in
      let (f, t, ready) = all_steps (step_count p) 0 (start c) zero_more start_ready in
      let rows = in_turn c (sends_rows c room) (brings_rows c room) (after_events c (start c) steps) (below (relation_count e)) in
      let (g, u, done) = all_rows (relation_count e) 0 (after_events c (start c) steps) none_yet ready in
      record {
        opened = λ site small. (opened c w site small, 0, opening_good c w site small);
        possible = follows_all steps rows (start c) f g;
        taken = taken_all steps rows (start c) t u;
        arrived = λ r h. ap (λ (s : State). has_arrived (s.at A).end r) (after_append steps rows (start c)) ∙ done.here r h;
      }

pub in_order_lem : InOrder
in_order_lem c w room wide = happens c w room wide
