-- The openings: every site's end is opened, and sound. And what the events of a history come to, state by state.
use mathlib.Core.Path.{◌≡◌, refl, ap, ◌∙◌}
use mathlib.Core.Bool.{false}
use mathlib.Core.List.Memᴰ
use mathlib.Core.List.{List, [], ◌∷◌, Memᴰ}
use mathlib.Core.Logic.{◌⊎◌, inl, inr}
use Prim.Native.Nat.{ℕ, ◌≤◌}
use native.Mathlib.Omega.{arith}
use lib.ListN.{replicate}
use Rattle.ground.specs.Outcome.{Outcome, leaves}
use Rattle.ground.specs.Outcome.Outcome.{good, bad}
use Rattle.ground.proofs.OutcomeLaws.{leaves_good}
use Rattle.contents.specs.Sites.{is_at}
use Rattle.semijoin.specs.Local.{opened_in}
use Rattle.semijoin.proofs.PromiseLaws.{promise}
use Rattle.ends.specs.Ends.{Marked, start_of, no_end}
use Rattle.station.specs.Making.{make_values_of, make_rows_of}
use Rattle.station.specs.Receiving.{Held, receive_of}
use Rattle.ends.proofs.EndLaws.{no_steps, none_arrived}
use Rattle.station.proofs.OpeningLaws.{open_complete}
use Rattle.demands.specs.Link.{Crew, Allowed, State, Bears, opening_at, site_opened, Event, Possible, with_made, lent_store, after}
use Rattle.demands.specs.Link.Event.{makes_values, makes_rows, comes}
use Rattle.demands.proofs.TakenLaws.{SoundAt, Sound}
use Rattle.answerer.specs.Stores.OneOfEach.{none}
use Rattle.demands.proofs.AppendedLaws.{none_due}
use Rattle.demands.proofs.SoundLaws.{Change, changes, stays_sound, sound_more, taken_at, taken_made}

-- ---- opened

module _ (c : Crew) (w : Allowed c) (site : ℕ) (small : site ≤ 7) where
  abbrev pub opened : Marked
  opened =
      record {
        end = start_of c.papers site c.run;
        marks = opened_in c.papers.envelope (c.tables site) (is_at c.papers.envelope site) (c.lent site);
      }

  pub opening_good : opening_at c site ≡ good opened 0
  opening_good =
      open_complete site c.run (c.tables site) (c.lent site) c.envelope c.program c.papers w.accepted.0 w.accepted.1
      (w.shapes site small) small (w.marks site small)

  pub opened_end : (site_opened c site).end ≡ start_of c.papers site c.run
  unfolding site_opened
  opened_end =
      ap (λ (o : Outcome Marked). leaves (λ (x : Marked). x.end) no_end o) opening_good ∙ leaves_good (λ (x : Marked). x.end) no_end opened 0

  pub opened_marks_lem : (site_opened c site).marks ≡ opened_in c.papers.envelope (c.tables site) (is_at c.papers.envelope site) (c.lent site)
  unfolding site_opened
  opened_marks_lem =
      ap (λ (o : Outcome Marked). leaves (λ (x : Marked). x.marks) (c.lent site) o) opening_good
      ∙ leaves_good (λ (x : Marked). x.marks) (c.lent site) opened 0

  pub opened_is : site_opened c site
      ≡ record {
        end = start_of c.papers site c.run;
        marks = opened_in c.papers.envelope (c.tables site) (is_at c.papers.envelope site) (c.lent site);
        store = [];
      }
  unfolding site_opened leaves
  opened_is =
      ap
      (λ (o : Outcome Marked).
      record {
        end = leaves (λ (x : Marked). x.end) no_end o;
        marks = leaves (λ (x : Marked). x.marks) (c.lent site) o;
        store = [];
      })
      opening_good

  pub sound_start : SoundAt c [] site (site_opened c site)
  unfolding start_of
  sound_start =
      rw opened_is
      (record {
        envelope = refl;
        program = refl;
        place = refl;
        run = refl;
        eight = refl;
        few = λ r h. omega (arith, no_steps r);
        arrivals = refl;
        marks = (promise c.papers.envelope).opens_as_many (c.tables site) (c.lent site) (is_at c.papers.envelope site);
        used = omega arith;
        stored = none (none_due c.papers.envelope (replicate 8 false) none_arrived) refl;
      })

-- ---- what an event does, for any statement about states

module _ (s : State) (Q : State → Type 0) where
  pub made_cases : (o : Outcome (List ℕ)) → Q s → ((m : List ℕ) (u : ℕ) → o ≡ good m u → Q (record { at = s.at; made = m ∷ s.made })) → Q (with_made s o)
  unfolding with_made
  made_cases (good m u) same more = more m u refl
  made_cases (bad n u) same more = same

-- a message of this run was made
pub own_made : (c : Crew) (s : State) (m : List ℕ) → (Memᴰ m s.made ⊎ (Bears c.run m → ⊥)) → Bears c.run m → Memᴰ m s.made
own_made c s m (inl there) own = there
own_made c s m (inr other) own = absurd (other own)

module _ (c : Crew) (w : Allowed c) where
  pub sound_next : (s : State) (x : Event) → Sound c s → Possible c s x → Sound c (after c s x)
  unfolding after
  sound_next s (makes_values site n room) sound small =
      made_cases s (Sound c) _ sound λ m u h. λ k l. sound_more c s.made m k (s.at k) (sound k l)
  sound_next s (makes_rows site r room) sound small =
      made_cases s (Sound c) _ sound λ m u h. λ k l. sound_more c s.made m k (s.at k) (sound k l)
  sound_next s (comes site m behind) sound (small, which) =
      let store = lent_store (s.at site) behind in
      let o = receive_of (s.at site).end (c.tables site) (s.at site).marks store m in
      rw (taken_made s site store o)
      (taken_at s site store o (SoundAt c s.made) sound
      (stays_sound c s.made site (s.at site) (sound site small) behind m (own_made c s m which) _
      (changes c w s.made site small (s.at site) (sound site small) store m)))

-- a statement of each site and one of each message that was made, over an event: they hold afterwards, where the one holds of every message that
-- can be made and the other of a site whatever a message does to it
module _ (c : Crew) (w : Allowed c) (Site : ℕ → Held → Type 0) (Message : List ℕ → Type 0) where
  abbrev Holding : State → Type 0
  Holding s = ((site : ℕ) → site ≤ 7 → Site site (s.at site)) × ((m : List ℕ) → Memᴰ m s.made → Message m)

  with_message : (s : State) (m : List ℕ) → Holding s → Message m → Holding (record { at = s.at; made = m ∷ s.made })
  with_message s m (sites, messages) new = (sites, λ n there. go n (Memᴰ.cases_cons there))
    where
      go : (n : List ℕ) → (n ≡ m) ⊎ Memᴰ n s.made → Message n
      go n (inl t) = rw t new
      go n (inr t) = messages n t

  module _
      (of_values : (made : List (List ℕ)) (site : ℕ) → site ≤ 7 → (x : Held) → SoundAt c made site x → Site site x
      → (m : List ℕ) (u n room : ℕ) → make_values_of x.end (c.tables site) x.marks n room ≡ good m u → Message m)
      (of-rows : (made : List (List ℕ)) (site : ℕ) → site ≤ 7 → (x : Held) → SoundAt c made site x → Site site x
      → (m : List ℕ) (u r room : ℕ) → make_rows_of x.end (c.tables site) x.marks r room ≡ good m u → Message m)
      (of-change : (made : List (List ℕ)) (site : ℕ) (x : Held) (store m : List ℕ) → SoundAt c made site x → Site site x
      → (Bears c.run m → Message m) → (h : Held) → Change c site x store m h → Site site h) where
    pub holding_next : (s : State) (x : Event) → Sound c s → Possible c s x → Holding s → Holding (after c s x)
    unfolding after
    holding_next s (makes_values site n room) sound small now =
        made_cases s Holding _ now λ m u h.
        with_message s m now (of_values s.made site small (s.at site) (sound site small) (now.0 site small) m u n room h)
    holding_next s (makes_rows site r room) sound small now =
        made_cases s Holding _ now λ m u h.
        with_message s m now (of-rows s.made site small (s.at site) (sound site small) (now.0 site small) m u r room h)
    holding_next s (comes site m behind) sound (small, which) now =
        let store = lent_store (s.at site) behind in
        let o = receive_of (s.at site).end (c.tables site) (s.at site).marks store m in (
          taken_at s site store o Site now.0
              (of-change s.made site (s.at site) store m (sound site small) (now.0 site small) (λ own. now.1 m (own_made c s m which own)) _
              (changes c w s.made site small (s.at site) (sound site small) store m)),
          rw (taken_made s site store o) now.1,
        )
