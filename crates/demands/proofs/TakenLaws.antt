-- A call at an end of the crew goes by the crew's papers: they stand in the end as they read back, so the end is sound, and the call
-- comes to its own tests.
use mathlib.Core.Path.{◌≡◌, sym, subst, ap, ap₂, ◌∙◌}
use mathlib.Core.Bool.{true}
use mathlib.Core.List.{List, Memᴰ}
use Prim.Native.Nat.{ℕ, ◌≤◌, ◌<◌}
use native.Mathlib.Omega.{arith}
use lib.ListN.{length, get_or, take}
use Rattle.ground.specs.Outcome.Outcome.{good}
use Rattle.contents.specs.Parts.{relation_count}
use Rattle.contents.specs.declared.envelope.Envelope.{Envelope}
use Rattle.papers.specs.Programs.{program_bytes}
use Rattle.papers.specs.Checks.{GoodPapers}
use Rattle.papers.specs.declared.programs.Program.{Program}
use Rattle.papers.specs.declared.checks.Papers.{Papers}
use Rattle.papers.proofs.CheckLaws.{papers_sound}
use Rattle.tables.specs.Offsets.{row_count}
use Rattle.tables.specs.Shape.{shaped}
use Rattle.ends.specs.Reducing.{step_count, steps_before}
use Rattle.ends.specs.Ends.{papers_of_end, sound_end, Sound as SoundEnd}
use Rattle.ends.proofs.SoundLaws.{sound_taken, sound_call}
use Rattle.station.specs.Making.{values_with, make_values_of, rows_with, make_rows_of}
use Rattle.station.specs.Receiving.{Held, receive_with, receive_of}
use Rattle.station.proofs.MakingLaws.{sound_values_lem, sound_rows}
use Rattle.answerer.specs.Stores.{SoundRows, OneOfEach}
use Rattle.demands.specs.Link.{Crew, Allowed, State}

-- a row message of this run that was made
abbrev pub Kept : Crew → List (List ℕ) → ℕ → List ℕ → Type 0
Kept c made r m = Memᴰ m made × SoundRows c.papers.envelope c.run r m

-- ---- sound ends

pub record SoundAt (c : Crew) (made : List (List ℕ)) (site : ℕ) (h : Held) : Type 0 where
  pub envelope : h.end.envelope ≡ c.papers.envelope
  pub program : h.end.program ≡ c.papers.program
  pub place : h.end.site ≡ site
  pub run : h.end.run ≡ c.run
  pub eight : length h.end.applied ≡ 8
  pub few : (r : ℕ) → r < relation_count c.papers.envelope
      → get_or h.end.applied r 0 ≤ steps_before c.papers.program r (step_count c.papers.program)
  pub arrivals : length h.end.arrived ≡ 8
  pub marks : length h.marks ≡ length (c.lent site)
  pub used : h.end.used ≤ length h.store
  pub stored : OneOfEach c.papers.envelope (Kept c made) h.end.arrived (take h.end.used h.store)

abbrev pub Sound : Crew → State → Type 0
Sound c s = (site : ℕ) → site ≤ 7 → SoundAt c s.made site (s.at site)

pub good_papers : (c : Crew) → Allowed c → GoodPapers c.papers
good_papers c w = papers_sound c.envelope c.program c.papers w.accepted.0 w.accepted.1

-- ---- so its calls go by these papers

module _ (c : Crew) (w : Allowed c) (made : List (List ℕ)) (site : ℕ) (small : site ≤ 7) (x : Held) (s : SoundAt c made site x) where
  pub room_at : row_count c.papers.envelope (c.tables site) ≤ length x.marks
  room_at = omega (arith, w.marks site small, s.marks)

  same : papers_of_end x.end ≡ c.papers
  same = ap₂ (λ (f : Envelope) (g : Program). record { envelope = f; program = g }) s.envelope s.program

  sound : SoundEnd x.end (length x.store)
  sound =
      record {
        papers = subst GoodPapers (sym same) (good_papers c w);
        counts = rw (s.envelope, s.program) s.few;
        eight = (s.eight, s.arrivals);
        held = s.used;
      }

  shape : shaped x.end.envelope (c.tables site) ≡ true
  shape = rw s.envelope (w.shapes site small)

  enough : row_count x.end.envelope (c.tables site) ≤ length x.marks
  enough = rw s.envelope room_at

  pub end_taken : (u : ℕ) × (sound_end x.end ≡ good c.papers u)
  end_taken = (
    length (program_bytes x.end.program),
    sound_taken x.end (length x.store) sound ∙ ap (λ (q : Papers). good q (length (program_bytes x.end.program))) same,
  )

  pub values_by : (n room : ℕ)
      → make_values_of x.end (c.tables site) x.marks n room ≡ values_with c.papers x.end (c.tables site) x.marks n room
  values_by n room =
      sound_values_lem x.end (length x.store) sound (c.tables site) x.marks shape enough n room
      ∙ ap (λ (q : Papers). values_with q x.end (c.tables site) x.marks n room) same

  pub rows_by : (r room : ℕ)
      → make_rows_of x.end (c.tables site) x.marks r room ≡ rows_with c.papers x.end (c.tables site) x.marks r room
  rows_by r room =
      sound_rows x.end (length x.store) sound (c.tables site) x.marks shape enough r room
      ∙ ap (λ (q : Papers). rows_with q x.end (c.tables site) x.marks r room) same

  pub received : (store m : List ℕ)
      → receive_of x.end (c.tables site) x.marks store m ≡ receive_with c.papers x.end (c.tables site) x.marks store m
  unfolding receive_of
  received store m =
      sound_call x.end (length x.store) sound (c.tables site) (length x.marks) shape enough
      (λ q. receive_with q x.end (c.tables site) x.marks store m)
      ∙ ap (λ (q : Papers). receive_with q x.end (c.tables site) x.marks store m) same
