-- What an opening says: where it is taken, its facts; where it is refused, by which number, and that nothing changed. An opened
-- end is sound.
use mathlib.Core.Path.{◌≡◌, refl, ap, sym}
use mathlib.Core.Bool.{true}
use mathlib.Core.List.{List, [], ◌∷◌, Memᴰ}
use mathlib.Core.Logic.{◌⊎◌, inl, inr}
use Prim.Native.Nat.{ℕ, ◌≤◌}
use native.Mathlib.Omega.{arith}
use lib.ListN.{length}
use lib.Dec.{ltb}
use borrow.Author.Tests.{ltb-false, le-ltb, not-false}
use Rattle.ground.specs.Outcome.Outcome.{good, bad}
use Rattle.ground.specs.Refusing.{Test, test}
use Rattle.ground.proofs.OutcomeLaws.{next_good, next_bad, leaves_refused}
use Rattle.ground.proofs.RefusingLaws.{judged_good, refusal_listed, each_passes}
use Rattle.ground.specs.declared.refusals.Reason.TheVariants.{BeyondLimit, WrongShape, TooShort}
use Rattle.contents.specs.Sites.{is_at}
use Rattle.contents.specs.declared.envelope.Envelope.{Envelope}
use Rattle.papers.specs.Checks.{papers_of, GoodPapers}
use Rattle.papers.specs.declared.programs.Program.{Program}
use Rattle.papers.specs.declared.checks.Papers.{Papers}
use Rattle.papers.proofs.CheckLaws.{papers_sound}
use Rattle.tables.specs.Offsets.{row_count}
use Rattle.tables.specs.Shape.{shaped, shape_test, mark_count_test}
use Rattle.semijoin.specs.Local.{opened_in}
use Rattle.ends.specs.Ends.{Marked, start_of, Sound}
use Rattle.station.specs.Opening.{open_with, open_of, opened_marks}
use Rattle.ends.specs.declared.ends.End.{End}
use Rattle.ends.proofs.EndLaws.{no_steps}
use Rattle.ground.specs.declared.refusals.Reason.{Reason}

-- ---- taken

pub record OpenedBy (q : Papers) (site run : ℕ) (words marks : List ℕ) (x : End) (after : List ℕ) : Type 0 where
  pub papers : GoodPapers q
  pub shape : shaped q.envelope words ≡ true
  pub site_small : site ≤ 7
  pub room : row_count q.envelope words ≤ length marks
  pub start : x ≡ start_of q site run
  pub marked : after ≡ opened_in q.envelope words (is_at q.envelope site) marks

module _ (site run : ℕ) (words marks : List ℕ) where
  abbrev open_tests : Papers → List Test
  open_tests q =
      shape_test q.envelope words ∷ test (ltb 7 site) BeyondLimit 0 ∷ mark_count_test q.envelope words (length marks) ∷ []

  abbrev effect : Papers → Marked
  effect q = record { end = start_of q site run; marks = opened_in q.envelope words (is_at q.envelope site) marks }

  with_facts : (q : Papers) → GoodPapers q → (s : Marked) (u : ℕ) → open_with q site run words marks ≡ good s u
      → OpenedBy q site run words marks s.end s.marks
  unfolding open_with
  with_facts q g s u h =
      let (none, made) = (judged_good (open_tests q) (good (effect q) 0) s u).0 h in
      let passed = each_passes (open_tests q) none in
      let same : effect q ≡ s = cc in
      record {
        papers = g;
        shape = not-false _ passed.0;
        site_small = ltb-false _ _ passed.1.0;
        room = ltb-false _ _ passed.1.1.0;
        start = ap (λ (m : Marked). m.end) (sym same);
        marked = ap (λ (m : Marked). m.marks) (sym same);
      }

  module _ (e : Envelope) (p : Program) where
    pub open_facts : (s : Marked) (u : ℕ) → open_of e p site run words marks ≡ good s u
        → (q : Papers) × (at : ℕ) × (papers_of e p ≡ good q at) × OpenedBy q site run words marks s.end s.marks
    unfolding open_of
    open_facts s u h =
        let (q, at, read, rest) = next_good (papers_of e p) _ s u h in
        (q, at, read, with_facts q (papers_sound e p q at read) s u rest)

    -- ---- refused: the papers' own refusal, or 10, 4, 11 at 0; nothing changed

    pub open_number : (n : Reason) (u : ℕ) → open_of e p site run words marks ≡ bad n u
        → (papers_of e p ≡ bad n u) ⊎ (Memᴰ n (WrongShape ∷ BeyondLimit ∷ TooShort ∷ []) × (u ≡ 0))
    unfolding open_of open_with
    open_number n u h = go (next_bad (papers_of e p) _ n u h)
      where
        go : (papers_of e p ≡ bad n u) ⊎ ((q : Papers) × (at : ℕ) × (papers_of e p ≡ good q at) × (open_with q site run words marks ≡ bad n u))
            → (papers_of e p ≡ bad n u) ⊎ (Memᴰ n (WrongShape ∷ BeyondLimit ∷ TooShort ∷ []) × (u ≡ 0))
        go (inl k) = inl k
        go (inr (q, at, _, k)) = inr (refusal_listed (open_tests q) (effect q) 0 n u (refl, (refl, (refl, tt))) k)

    module _ (n : Reason) (u : ℕ) (h : open_of e p site run words marks ≡ bad n u) where
      pub open_untouched : opened_marks marks (open_of e p site run words marks) ≡ marks
      open_untouched = leaves_refused (λ (s : Marked). s.marks) marks (open_of e p site run words marks) n u h

  -- papers that are taken, tables of the shape, a site from 0 to 7 and marks enough: taken
  pub open_complete : (e : Envelope) (p : Program) (q : Papers) (u : ℕ) → papers_of e p ≡ good q u → shaped q.envelope words ≡ true → site ≤ 7
      → row_count q.envelope words ≤ length marks → open_of e p site run words marks ≡ good (effect q) 0
  unfolding open_of open_with
  open_complete e p q u read shape small room =
      rw (read, shape, le-ltb 7 site small, le-ltb (length marks) (row_count q.envelope words) room)

-- ---- an opened end is sound, beside any store

pub start_sound : (q : Papers) (site run room : ℕ) → GoodPapers q → Sound (start_of q site run) room
unfolding start_of
start_sound q site run room g =
    record {
      papers = g;
      counts = λ r h. rw (no_steps r) (omega arith);
      eight = (refl, refl);
      held = omega arith;
    }

pub opened_sound : (e : Envelope) (p : Program) (site run : ℕ) (words marks : List ℕ) (room : ℕ) (s : Marked) (u : ℕ)
    → open_of e p site run words marks ≡ good s u → Sound s.end room
opened_sound e p site run words marks room s u h =
    let (q, _, _, by) = open_facts site run words marks e p s u h in
    rw by.start (start_sound q site run room by.papers)
