-- In order every step's calls are taken: with every step before n applied and none behind, the value message of step n is made and
-- taken, and then every step before the next is applied.
use mathlib.Core.Path.{◌≡◌, refl, sym, ap, ◌∙◌}
use mathlib.Core.Bool.{true, false}
use mathlib.Core.List.Memᴰ
use mathlib.Core.List.{List, ◌∷◌}
use mathlib.Core.Logic.{inl}
use Prim.Native.Nat.{ℕ, suc, ◌+◌, ◌≤◌, ◌<◌}
use native.Mathlib.Decide.{ℕ_discrete}
use native.Mathlib.Omega.{arith}
use lib.ListN.{length, get_or, take, set, replicate, length-append, length-replicate}
use lib.Seq.{get_or-set_same, get_or-set_other, length-take-le}
use lib.Dec.{ltb}
use borrow.Author.Tests.{eqb-true, eq-eqb, lt-ltb}
use Rattle.ground.specs.Outcome.Outcome.{good}
use Rattle.ground.proofs.TestLaws.{and_right, and_both}
use Rattle.ground.proofs.ListLaws.{any_of}
use Rattle.ground.proofs.NumbersLaws.{below_mem}
use Rattle.ground.proofs.OutcomeLaws.{leaves_good}
use Rattle.contents.specs.Parts.{relation_count}
use Rattle.contents.specs.Sites.{site_of, is_at, holds}
use Rattle.contents.specs.declared.envelope.Envelope.{Envelope}
use Rattle.papers.specs.declared.programs.Program.{Program}
use Rattle.papers.proofs.ExactPrograms.{site_small}
use Rattle.paths.proofs.StepLaws.{legal_step}
use Rattle.semijoin.specs.Marks.{reduced_by}
use Rattle.tables.specs.Values.{rising_values}
use Rattle.tables.proofs.ShapeLaws.{place_relation, shaped_shape}
use Rattle.tables.proofs.ValueLaws.{no_more_values}
use Rattle.ends.specs.Reducing.{step_count, step_of, steps_before}
use Rattle.ends.specs.Ends.{applied_of, has_arrived}
use Rattle.ends.specs.Messages.{value_message, body_of}
use Rattle.station.specs.Making.{make_values_of}
use Rattle.station.specs.Receiving.{Held, applied_to, with_applied, receive_of}
use Rattle.ends.proofs.ReducingLaws.{before_own, before_other}
use Rattle.station.proofs.MakingLaws.{ValuesMade, values_go}
use Rattle.station.proofs.DeliveredLaws.{values_arrive}
use Rattle.demands.specs.Link.{Crew, Allowed, State, Possible, with_made, with_taken, lent_store, after}
use Rattle.demands.specs.Orderly.{sends_step, brings_step, IsTaken}
use Rattle.demands.proofs.TakenLaws.{SoundAt, Sound, received, good_papers, values_by}
use Rattle.demands.proofs.SoundLaws.{taken_here, taken_there}
use Rattle.demands.proofs.StartLaws.{sound_next}
use Rattle.demands.proofs.SaidLaws.{step_legal}

-- ---- where relations are

module _ (c : Crew) (w : Allowed c) where
  abbrev e : Envelope
  e = c.papers.envelope

  abbrev p : Program
  p = c.papers.program

  abbrev A : ℕ
  A = c.papers.program.site

  pub at_own : (r : ℕ) → r < relation_count e → is_at e (site_of e r) r ≡ true
  unfolding is_at
  at_own r h = and_both (lt-ltb r (relation_count e) h) (eq-eqb (site_of e r) (site_of e r) refl)

  at_one : (site r : ℕ) → is_at e site r ≡ true → site_of e r ≡ site
  unfolding is_at
  at_one site r t = eqb-true (site_of e r) site (and_right (ltb r (relation_count e)) _ t)

  pub site_few : (r : ℕ) → r < relation_count e → site_of e r ≤ 7
  unfolding holds
  site_few r h =
      site_small e (good_papers c w).within (site_of e r) (any_of (is_at e (site_of e r)) (below_mem r (relation_count e) h) (at_own r h))

  pub assembly_few : A ≤ 7
  assembly_few = site_small e (good_papers c w).within A (good_papers c w).acceptable.site

  -- ---- every step before n applied and none behind; the rows of the first k relations arrived and none behind

  pub record Ready (n k : ℕ) (s : State) : Type 0 where
    pub sound : Sound c s
    pub applied : (site r : ℕ) → site ≤ 7 → is_at e site r ≡ true → applied_of (s.at site).end r ≡ steps_before p r n
    pub here : (r : ℕ) → r < k → has_arrived (s.at A).end r ≡ true
    pub awaited : (r : ℕ) → k ≤ r → has_arrived (s.at A).end r ≡ false

  pub lent_room : (x : Held) (room : ℕ) → x.end.used ≤ length x.store → x.end.used + room ≤ length (lent_store x (replicate room 0))
  lent_room x room h =
      let z : ℕ = 0 in
      omega (
        arith,
        length-append (take x.end.used x.store) (replicate room 0),
        length-take-le x.end.used x.store h,
        length-replicate room z,
      )

  -- ---- one step

  module _ (room : ℕ) (wide : 16400 ≤ room) where
    module _ (n : ℕ) (few : n < step_count p) (s : State) (ready : Ready n 0 s) where
      abbrev a : ℕ
      a = (step_of p n).left.relation

      abbrev b : ℕ
      b = (step_of p n).right.relation

      left_there : a < relation_count e
      left_there = place_relation e (step_of p n).left (legal_step e (step_of p n) (step_legal c w n few)).left

      right_there : b < relation_count e
      right_there = place_relation e (step_of p n).right (legal_step e (step_of p n) (step_legal c w n few)).right

      abbrev sender : ℕ
      sender = site_of e b

      abbrev receiver : ℕ
      receiver = site_of e a

      abbrev from : Held
      from = s.at sender

      abbrev to : Held
      to = s.at receiver

      s_from : SoundAt c s.made sender from
      s_from = ready.sound sender (site_few b right_there)

      s_to : SoundAt c s.made receiver to
      s_to = ready.sound receiver (site_few a left_there)

      abbrev sent : List ℕ
      sent = value_message from.end.run n (rising_values e (c.tables sender) from.marks (step_of p n).right)

      sent_few : length sent ≤ room
      unfolding value_message
      sent_few =
          let few-rows = (shaped_shape e (c.tables sender) (w.shapes sender (site_few b right_there))).few b in
          omega (arith, wide, no_more_values e (c.tables sender) from.marks (step_of p n).right, few-rows)

      made_by : ValuesMade c.papers from.end (c.tables sender) from.marks n sent
      made_by =
          record {
            exists = few;
            here = rw s_from.place (at_own b right_there);
            ready = omega (arith, ready.applied sender b (site_few b right_there) (at_own b right_there));
            is = refl;
          }

      made : make_values_of from.end (c.tables sender) from.marks n room ≡ good sent (length sent)
      made =
          values_by c w s.made sender (site_few b right_there) from s_from n room
          ∙ values_go from.end (c.tables sender) from.marks n room c.papers sent made_by sent_few

      abbrev mid : State
      mid = record { at = s.at; made = sent ∷ s.made }

      after_made : after c s (sends_step c room n) ≡ mid
      unfolding after with_made
      after_made = rw made

      abbrev store : List ℕ
      store = lent_store to (replicate room 0)

      abbrev now : Held
      now =
          record {
            end = with_applied to.end a;
            marks = reduced_by e (c.tables receiver) (body_of sent) (step_of p n).left to.marks;
            store = store;
          }

      came : receive_of to.end (c.tables receiver) to.marks store sent ≡ good now 0
      came =
          received c w s.made receiver (site_few a left_there) to s_to store sent
          ∙ values_arrive c.papers (good_papers c w) from.end (c.tables sender) from.marks (w.shapes sender (site_few b right_there))
          to.end (s_to.run ∙ sym s_from.run) (c.tables receiver) to.marks store sent n made_by (rw s_to.place (at_own a left_there))
          (sym (ready.applied receiver a (site_few a left_there) (at_own a left_there)))

      abbrev then : State
      then = with_taken mid receiver store (good now 0)

      after_came : after c mid (brings_step c room mid n) ≡ then
      unfolding after
      after_came = ap (with_taken mid receiver store) came

      now_there : then.at receiver ≡ now
      now_there = taken_here mid receiver store (good now 0) ∙ leaves_good (λ (h : Held). h) (record { end = to.end; marks = to.marks; store = store }) now 0

      others_there : (k : ℕ) → (k ≡ receiver → ⊥) → then.at k ≡ s.at k
      others_there k d = taken_there mid receiver store (good now 0) k d

      then_sound : Sound c then
      then_sound =
          let one : Sound c mid = rw after_made at (sound_next c w s (sends_step c room n) ready.sound (site_few b right_there)) in
          rw after_came at (sound_next c w mid (brings_step c room mid n) one (site_few a left_there, inl (Memᴰ.head refl)))

      few_applied : a < length to.end.applied
      few_applied = let eight : relation_count e ≤ 8 = omega arith in omega (arith, eight, s_to.eight, left_there)

      now_applied : (r : ℕ) → is_at e receiver r ≡ true → applied_of now.end r ≡ steps_before p r (suc n)
      unfolding with_applied applied_to
      now_applied r here = go (ℕ_discrete r a)
        where
          go : Dec (r ≡ (step_of p n).left.relation)
              → get_or (set to.end.applied a (applied_of to.end a + 1)) r 0 ≡ steps_before p r (suc n)
          go (yes t) =
              rw t
              (get_or-set_same to.end.applied a (applied_of to.end a + 1) 0 few_applied
              ∙ omega (arith, ready.applied receiver a (site_few a left_there) (at_own a left_there), before_own p a n few refl))
          go (no t) =
              get_or-set_other to.end.applied a r (applied_of to.end a + 1) 0 t
              ∙ ready.applied receiver r (site_few a left_there) here
              ∙ sym (before_other p r n few (λ z. t (sym z)))

      now_arrived : (r : ℕ) → has_arrived now.end r ≡ has_arrived to.end r
      unfolding with_applied applied_to
      now_arrived r = refl

      then_ready : Ready (suc n) 0 then
      then_ready =
          record {
            sound = then_sound;
            applied = λ site r small here. at_site site r small here (ℕ_discrete site receiver);
            here = λ r h. absurd (omega arith);
            awaited = λ r h. not_yet r (ℕ_discrete A receiver);
          }
        where
          at_site : (site r : ℕ) → site ≤ 7 → is_at e site r ≡ true → Dec (site ≡ site_of e (step_of p n).left.relation)
              → applied_of (then.at site).end r ≡ steps_before p r (suc n)
          at_site site r small here (yes t) =
              let own : is_at e receiver r ≡ true = rw t at here in
              ap (λ (k : ℕ). applied_of (then.at k).end r) t ∙ ap (λ (x : Held). applied_of x.end r) now_there ∙ now_applied r own
          at_site site r small here (no t) =
              let other : (step_of p n).left.relation ≡ r → ⊥ = λ z. t (sym (at_one site r here) ∙ ap (site_of e) (sym z)) in
              ap (λ (x : Held). applied_of x.end r) (others_there site t) ∙ ready.applied site r small here ∙ sym (before_other p r n few other)

          not_yet : (r : ℕ) → Dec (c.papers.program.site ≡ site_of e (step_of p n).left.relation) → has_arrived (then.at A).end r ≡ false
          not_yet r (yes t) =
              ap (λ (k : ℕ). has_arrived (then.at k).end r) t ∙ ap (λ (x : Held). has_arrived x.end r) now_there ∙ now_arrived r
              ∙ ap (λ (k : ℕ). has_arrived (s.at k).end r) (sym t) ∙ ready.awaited r (omega arith)
          not_yet r (no t) = ap (λ (x : Held). has_arrived x.end r) (others_there A t) ∙ ready.awaited r (omega arith)

      -- both calls are possible and taken, and the state is ready for the next
      pub step_done : Possible c s (sends_step c room n) × IsTaken c s (sends_step c room n)
          × Possible c (after c s (sends_step c room n)) (brings_step c room (after c s (sends_step c room n)) n)
          × IsTaken c (after c s (sends_step c room n)) (brings_step c room (after c s (sends_step c room n)) n)
          × Ready (suc n) 0 (after c (after c s (sends_step c room n)) (brings_step c room (after c s (sends_step c room n)) n))
      step_done =
          rw after_made (
            site_few b right_there,
            (sent, length sent, made),
            (site_few a left_there, inl (Memᴰ.head refl)),
            (now, 0, came),
            rw after_came then_ready,
          )
