-- What holds of each site's end, marks and store in every state that a crew comes to, whatever its messages say: the papers are
-- those read back, no step is counted that the program has not, and the store is the row messages that arrived.
use mathlib.Core.Path.{◌≡◌, refl, sym, ap, ◌∙◌}
use mathlib.Core.Bool.{Bool, true, false, ◌&&◌}
use mathlib.Core.List.{List, [], ◌∷◌, ◌++◌, Memᴰ}
use mathlib.Core.Logic.{inl, inr}
use Prim.Native.Nat.{ℕ, ◌+◌, ◌-◌, ◌≤◌, ◌<◌}
use native.Mathlib.Decide.{ℕ_discrete}
use native.Mathlib.Omega.{arith}
use lib.ListN.{length, take, length-set, length-append}
use lib.Seq.{sets, take_at, length-take-le, length-sets}
use lib.Dec.{ltb, leb}
use borrow.Author.Tests.{eq-eqb, ne_eqb, le-ltb}
use Rattle.ground.specs.Tests.{pick}
use Rattle.ground.specs.Outcome.{Outcome, value_of}
use Rattle.ground.specs.Outcome.Outcome.{good, bad}
use Rattle.ground.proofs.OutcomeLaws.{never, leaves_good, leaves_bad}
use Rattle.contents.specs.Parts.{relation_count}
use Rattle.contents.specs.Sites.{is_at}
use Rattle.contents.specs.Kept.{kept_columns}
use Rattle.semijoin.specs.Marks.{reduced_by}
use Rattle.semijoin.proofs.PromiseLaws.{promise}
use Rattle.ends.specs.Reducing.{step_count, step_of, steps_before}
use Rattle.ends.specs.Ends.{applied_of, has_arrived}
use Rattle.ends.specs.Messages.{front_length, run_of, second_of, body_of, about_of, counted}
use Rattle.station.specs.Receiving.{Held, applied_to, with_applied, with_arrived, receive_of, receive_with}
use Rattle.ends.specs.declared.messages.About.TheVariants as about
use Rattle.ends.specs.declared.ends.End.{End}
use Rattle.station.proofs.ReceivingLaws.{Taken, with_facts}
use Rattle.ends.proofs.EndLaws.{here_below}
use Rattle.ends.proofs.ReducingLaws.{applied_within}
use Rattle.ends.proofs.MessageLaws.{step_below, rows_below}
use Rattle.answerer.specs.Stores.{SoundRows}
use Rattle.answerer.proofs.DeliveredLaws.{arrived_held}
use Rattle.demands.specs.Link.{Crew, Allowed, State, Bears, with_taken, lent_store}
use Rattle.demands.proofs.TakenLaws.{Kept, SoundAt, received}
use Rattle.demands.proofs.AppendedLaws.{held_map}

-- ---- what a message that comes does to a site

pub data Change (c : Crew) (site : ℕ) (x : Held) (store m : List ℕ) (h : Held) : Type 0 where
  refused : h ≡ record { end = x.end; marks = x.marks; store = store } → Change c site x store m h
  reduces : (n : ℕ) → about_of (step_count c.papers.program) (relation_count c.papers.envelope) (second_of m) ≡ about.Step n
      → Bears c.run m → is_at c.papers.envelope site (step_of c.papers.program n).left.relation ≡ true
      → applied_of x.end (step_of c.papers.program n).left.relation
      ≡ steps_before c.papers.program (step_of c.papers.program n).left.relation n
      → h ≡ record {
        end = with_applied x.end (step_of c.papers.program n).left.relation;
        marks = reduced_by c.papers.envelope (c.tables site) (body_of m) (step_of c.papers.program n).left x.marks;
        store = store;
      }
      → Change c site x store m h
  arrives : (r : ℕ) → about_of (step_count c.papers.program) (relation_count c.papers.envelope) (second_of m) ≡ about.Rows r
      → Bears c.run m → site ≡ c.papers.program.site → counted (length (kept_columns c.papers.envelope r)) m ≡ true
      → has_arrived x.end r ≡ false → x.end.used + length m ≤ length store
      → h ≡ record { end = with_arrived x.end r (length m); marks = x.marks; store = sets store x.end.used m }
      → Change c site x store m h

-- a message that is taken bears the run's number, and one that bears it begins with it
run_borne : (m : List ℕ) (run : ℕ) → front_length ≤ length m → run_of m ≡ run → Bears run m
run_borne [] run three own = absurd (omega (arith, three))
run_borne (x ∷ rest) run three own = (rest, ap (λ (y : ℕ). y ∷ rest) own)

borne_run : (m : List ℕ) (run : ℕ) → Bears run m → run_of m ≡ run
borne_run m run (rest, is) = ap run_of is

held_is : (h : Held) (a : End) (b d : List ℕ) → h.end ≡ a → h.marks ≡ b → h.store ≡ d → h ≡ record { end = a; marks = b; store = d }
held_is h a b d p q r = rw (← p, ← q, ← r) refl

module _ (c : Crew) (w : Allowed c) (made : List (List ℕ)) (site : ℕ) (small : site ≤ 7) (x : Held) (s : SoundAt c made site x) where
  pub changes : (store m : List ℕ)
      → Change c site x store m
      (value_of (record { end = x.end; marks = x.marks; store = store }) (receive_of x.end (c.tables site) x.marks store m))
  changes store m = go (receive_of x.end (c.tables site) x.marks store m) (received c w made site small x s store m)
    where
      go : (o : Outcome Held) → o ≡ receive_with c.papers x.end (c.tables site) x.marks store m
          → Change c site x store m (value_of (record { end = x.end; marks = x.marks; store = store }) o)
      go (bad n u) f = refused (leaves_bad (λ (h : Held). h) (record { end = x.end; marks = x.marks; store = store }) n u)
      go (good h u) f =
          rw (leaves_good (λ (h : Held). h) (record { end = x.end; marks = x.marks; store = store }) h u)
          (which (with_facts c.papers x.end (c.tables site) x.marks store m h u (sym f)))
        where
          which : (front_length ≤ length m) × (run_of m ≡ x.end.run) × Taken c.papers x.end (c.tables site) x.marks store m h → Change c site x store m h
          which (three, own, inl (n, is, t, kept)) =
              reduces n is (run_borne m c.run three (own ∙ s.run)) (rw s.place at t.here) (sym t.due) (held_is h _ _ _ t.end t.marked kept)
          which (three, own, inr (r, is, t, kept)) =
              arrives r is (run_borne m c.run three (own ∙ s.run)) (sym s.place ∙ t.here) t.sound t.first t.fits (held_is h _ _ _ t.end kept t.stored)

-- ---- one site changes, the others stay

module _ (s : State) (site : ℕ) (store : List ℕ) (o : Outcome Held) where
  pub taken_here : (with_taken s site store o).at site
      ≡ value_of (record { end = (s.at site).end; marks = (s.at site).marks; store = store }) o
  unfolding with_taken
  taken_here = rw (eq-eqb site site refl)

  pub taken_there : (k : ℕ) → (k ≡ site → ⊥) → (with_taken s site store o).at k ≡ s.at k
  unfolding with_taken
  taken_there k differ = rw (ne_eqb k site differ)

  pub taken_made : (with_taken s site store o).made ≡ s.made
  unfolding with_taken
  taken_made = refl

  pub taken_at : (Q : ℕ → Held → Type 0) → ((k : ℕ) → k ≤ 7 → Q k (s.at k))
      → Q site (value_of (record { end = (s.at site).end; marks = (s.at site).marks; store = store }) o)
      → (k : ℕ) → k ≤ 7 → Q k ((with_taken s site store o).at k)
  taken_at Q all one k h = go (ℕ_discrete k site)
    where
      here : Q site ((with_taken s site store o).at site)
      here = rw taken_here one

      go : Dec (k ≡ site) → Q k ((with_taken s site store o).at k)
      go (yes t) = rw t here
      go (no t) = rw (taken_there k t) (all k h)

-- ---- an end stays sound

pub rows_any : (steps relations mark r : ℕ) → about_of steps relations mark ≡ about.Rows r → about_of 0 relations mark ≡ about.Rows r
unfolding about_of
rows_any steps relations mark r h = rw (le-ltb mark 0 (omega arith)) (go (ltb mark steps) h)
  where
    go : (b : Bool) → pick b (about.Step mark) (pick (leb 256 mark && ltb mark (256 + relations)) (about.Rows (mark - 256)) about.Nothing) ≡ about.Rows r
        → pick (leb 256 mark && ltb mark (256 + relations)) (about.Rows (mark - 256)) about.Nothing ≡ about.Rows r
    go true t = let z : ◌≡◌ {A = ℕ} 0 1 = cc in absurd (never z)
    go false t = t

module _ (c : Crew) (made : List (List ℕ)) (site : ℕ) (x : Held) (s : SoundAt c made site x) (behind m : List ℕ) where
  abbrev lent : List ℕ
  lent = take x.end.used x.store ++ behind

  front : length (take x.end.used x.store) ≡ x.end.used
  front = length-take-le x.end.used x.store s.used

  pub lent_used : x.end.used ≤ length (lent_store x behind)
  lent_used = omega (arith, front, length-append (take x.end.used x.store) behind)

  pub lent_same : take x.end.used (lent_store x behind) ≡ take x.end.used x.store
  lent_same = take_at (take x.end.used x.store) behind x.end.used front

  pub stays_sound : (Bears c.run m → Memᴰ m made) → (h : Held) → Change c site x (lent_store x behind) m h → SoundAt c made site h
  unfolding with_applied applied_to with_arrived
  stays_sound there h (refused is) =
      rw is
      (record {
        envelope = s.envelope;
        program = s.program;
        place = s.place;
        run = s.run;
        eight = s.eight;
        few = s.few;
        arrivals = s.arrivals;
        marks = s.marks;
        used = lent_used;
        stored = rw lent_same s.stored;
      })
  stays_sound there h (reduces n spoken own here next is) =
      rw is
      (record {
        envelope = s.envelope;
        program = s.program;
        place = s.place;
        run = s.run;
        eight = length-set x.end.applied r (applied_of x.end r + 1) ∙ s.eight;
        few = λ k h. applied_within c.papers.program x.end.applied n last inside next k (s.few k h);
        arrivals = s.arrivals;
        marks = (promise c.papers.envelope).as_many (c.tables site) (body_of m) x.marks (step_of c.papers.program n).left ∙ s.marks;
        used = lent_used;
        stored = rw lent_same s.stored;
      })
    where
      r : ℕ
      r = (step_of c.papers.program n).left.relation

      last : n < step_count c.papers.program
      last = step_below (step_count c.papers.program) (relation_count c.papers.envelope) (second_of m) n spoken

      inside : r < length x.end.applied
      inside =
          let eight : relation_count c.papers.envelope ≤ 8 = omega arith in
          omega (arith, eight, s.eight, here_below c.papers.envelope site r here)
  stays_sound there h (arrives r spoken own here whole new room is) =
      rw is
      (record {
        envelope = s.envelope;
        program = s.program;
        place = s.place;
        run = s.run;
        eight = s.eight;
        few = s.few;
        arrivals = length-set x.end.arrived r true ∙ s.arrivals;
        marks = s.marks;
        used = rw (length-sets lent x.end.used m) room;
        stored = arrived_held c.papers.envelope (Kept c made) r m (there own, sound) x.end lent room (rw lent_same s.stored) few_arrived new;
      })
    where
      few_arrived : r < length x.end.arrived
      few_arrived = omega (arith, s.arrivals, rows_below (step_count c.papers.program) (relation_count c.papers.envelope) (second_of m) r spoken)

      sound : SoundRows c.papers.envelope c.run r m
      sound =
          record {
            own = borne_run m c.run own;
            about = rows_any (step_count c.papers.program) (relation_count c.papers.envelope) (second_of m) r spoken;
            whole = whole;
          }

-- with one message more made
pub sound_more : (c : Crew) (made : List (List ℕ)) (m : List ℕ) (site : ℕ) (h : Held) → SoundAt c made site h → SoundAt c (m ∷ made) site h
sound_more c made m site h s =
    record {
      envelope = s.envelope;
      program = s.program;
      place = s.place;
      run = s.run;
      eight = s.eight;
      few = s.few;
      arrivals = s.arrivals;
      marks = s.marks;
      used = s.used;
      stored = held_map c.papers.envelope (λ r n k. (Memᴰ.tail k.0, k.1)) h.end.arrived (take h.end.used h.store) s.stored;
    }
