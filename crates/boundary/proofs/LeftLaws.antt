-- What a call leaves is what the next call reads: the state after a message that is taken, or after opening, is the end that the call
-- gave, and used stays a word.
use mathlib.Core.Path.{◌≡◌, refl, sym, ap, subst, ◌∙◌}
use mathlib.Core.Bool.{true}
use mathlib.Core.List.{List, [], ◌∷◌}
use mathlib.Core.Logic.{inl, inr, ◌≢◌}
use Prim.Native.Nat.{ℕ, ◌+◌, ◌≤◌, ◌<◌}
use native.Mathlib.Omega.{arith}
use lib.ListN.{length, get_or, length-set, get_or-replicate}
use lib.Seq.{length-sets, get_or-set_other}
use lib.Dec.{ltb}
use borrow.Author.Tests.{le-ltb, ltb-false}
use Rattle.ground.specs.Bytes.{Bytes}
use Rattle.ground.specs.Outcome.{Outcome, next}
use Rattle.ground.specs.Outcome.Outcome.{good}
use Rattle.ground.specs.Refusing.{test}
use Rattle.ground.proofs.OutcomeLaws.{next_good}
use Rattle.ground.proofs.RefusingLaws.{judged_good, each_passes}
use Rattle.ground.specs.declared.refusals.Reason.TheVariants.{BeyondLimit, TooShort}
use Rattle.contents.specs.Parts.{relation_count}
use Rattle.contents.specs.declared.envelope.Envelope.{Envelope}
use Rattle.envelopes.specs.Envelope.{read_envelope}
use Rattle.envelopes.proofs.ExactEnvelope.{envelope_exact, check_read}
use Rattle.papers.specs.Programs.{read_program, program_against}
use Rattle.papers.specs.Checks.{papers_of, GoodPapers}
use Rattle.papers.specs.declared.checks.Papers.{Papers}
use Rattle.papers.proofs.CheckLaws.{papers_complete}
use Rattle.papers.proofs.ExactPrograms.{program_exact}
use Rattle.tables.specs.Shape.{marks_tests}
use Rattle.ends.specs.Ends.{papers_of_end, over_applied, sound_end, usable, applied_of, Marked, start_of}
use Rattle.ends.specs.Reducing.{step_of}
use Rattle.ends.specs.declared.ends.End.{End}
use Rattle.ends.proofs.EndLaws.{here_below}
use Rattle.station.specs.Opening.{open_of}
use Rattle.station.specs.Receiving.{Held, applied_to, with_applied, with_arrived, receive_of}
use Rattle.station.proofs.OpeningLaws.{open_facts}
use Rattle.station.proofs.ReceivingLaws.{Taken, with_facts}
use Rattle.boundary.specs.States.{unclear, end_of, applied_in, arrived_in, state_after}
use Rattle.boundary.specs.Given.{papers_in, end_in}
use Rattle.boundary.specs.Stations.{open_given, open_from, receive_given, receive_from}
use Rattle.boundary.proofs.RememberedLaws.{Sayable, state_clear, end_exact, place_get_d}

-- ---- papers that were read

pub papers_good : (e p : List ℕ) → Bytes e → Bytes p → (q : Papers) (at : ℕ) → papers_in e p ≡ good q at → GoodPapers q
unfolding papers_in read_program
papers_good e p all each q at h =
    let (f, v, read, rest) = next_good (read_envelope e) _ q at h in
    let (g, w, against, made) = next_good (read_program f p) _ q at rest in
    let (within, tidied) = ((envelope_exact e f v all).0 read).0 in
    let own : program_against f p ≡ good g w =
    sym (ap (λ (o : Outcome Envelope). next o (λ f _. program_against f p)) (check_read e f v all read)) ∙ against in
    let (acceptable, trimmed) = ((program_exact f within p g w each).0 own).0 in
    let same : record { envelope = f; program = g } ≡ q = cc in
    let found : GoodPapers (record { envelope = f; program = g }) =
    record { within = within; tidied = tidied; acceptable = acceptable; trimmed = trimmed } in
    rw same at found

-- checked once more, they are as they are
own_papers_lem : (x : End) → GoodPapers (papers_of_end x) → (words : List ℕ) (n : ℕ) (q : Papers) (u : ℕ) → usable x words n ≡ good q u → q ≡ papers_of_end x
unfolding usable sound_end
own_papers_lem x fine words n q u h =
    let (f, w, sound, rest) = next_good (sound_end x) _ q u h in
    let shaped : good f w ≡ good q u = ((judged_good (marks_tests f.envelope words n) (good f w) q u).0 rest).1 in
    let (g, v, read, counts) = next_good (papers_of x.envelope x.program) _ f w sound in
    let over : good g v ≡ good f w =
    ((judged_good (test (over_applied g.program (relation_count g.envelope) x.applied) BeyondLimit 0 ∷ []) (good g v) f w).0 counts).1 in
    let whole = sym read ∙ papers_complete (papers_of_end x) fine in
    let first : g ≡ papers_of_end x = cc in
    let second : g ≡ f = cc in
    let third : f ≡ q = cc in
    sym third ∙ sym second ∙ first

-- ---- an end that was read, and one that is written over it

module _ (e p s : List ℕ) where
  pub end_parts : (x : End) (at : ℕ) → end_in e p s ≡ good x at
      → (19 ≤ length s) × (q : Papers) × (papers_in e p ≡ good q at) × (x ≡ end_of q s)
  unfolding end_in
  end_parts x at h =
      let (short, rest) = (judged_good (test (ltb (length s) 19) TooShort 0 ∷ []) _ x at).0 h in
      let (q, u, read, more) = next_good (papers_in e p) _ x at rest in
      let made : good (end_of q s) u ≡ good x at = ((judged_good (test (unclear s) BeyondLimit 0 ∷ []) (good (end_of q s) u) x at).0 more).1 in
      let same : end_of q s ≡ x = cc in
      let place : u ≡ at = cc in
      (ltb-false _ _ (each_passes (test (ltb (length s) 19) TooShort 0 ∷ []) short).0, q, read ∙ ap (good q) place, sym same)

  -- the words of an end with the same papers read as that end
  read_again : 19 ≤ length s → (q : Papers) (at : ℕ) → papers_in e p ≡ good q at → (x : End) → papers_of_end x ≡ q → Sayable x s
      → end_in e p (state_after x s) ≡ good x at
  unfolding end_in state_after
  read_again long q at read x own sayable =
      rw (le-ltb (length (state_after x s)) 19 (rw (length-sets s 0 _) long), read, state_clear x s long, ← own)
      (ap (λ (y : End). good y at) ((end_exact x s long).1 sayable))

-- ---- receiving

module _ (q : Papers) (fine : GoodPapers q) (s words marks store m : List ℕ) (counted : get_or s 2 0 ≤ 4294967295) where
  abbrev x : End
  x = end_of q s

  applied_read : (r : ℕ) → r < 8 → get_or x.applied r 0 ≡ get_or s (3 + r) 0
  unfolding end_of applied_in
  applied_read r k = place_get_d (λ r. get_or s (3 + r) 0) r 0 k

  eight : (length x.applied ≡ 8) × (length x.arrived ≡ 8)
  unfolding end_of applied_in arrived_in
  eight = (refl, refl)

  -- one more step applied, or rows arrived: the words say it, and behind the last relation nothing changes
  step_sayable : (r n : ℕ) → r < relation_count q.envelope → Sayable (applied_to x r n) s
  unfolding end_of applied_to
  step_sayable r n below =
      record {
        counted = counted;
        eight = (length-set x.applied r n ∙ eight.0, eight.1);
        behind = λ j l k.
            let other : j ≢ r = λ w. let away : j ≡ r = w in omega (arith, away, l, below) in
            get_or-set_other x.applied r j n 0 other ∙ applied_read j k;
      }

  rows_sayable : (r n : ℕ) → get_or s 2 0 + n ≤ 4294967295 → Sayable (with_arrived x r n) s
  unfolding end_of with_arrived
  rows_sayable r n fits =
      record {
        counted = fits;
        eight = (eight.0, length-set x.arrived r true ∙ eight.1);
        behind = λ j l k. applied_read j k;
      }

  -- either way the papers stay
  taken_sayable : length store ≤ 4294967295 → (h : Held) (u : ℕ) → receive_of x words marks store m ≡ good h u
      → (papers_of_end h.end ≡ q) × Sayable h.end s
  unfolding receive_of with_applied applied_to with_arrived end_of
  taken_sayable small h u received =
      let (f, at, found, rest) = next_good (usable x words (length marks)) _ h u received in
      let own : f ≡ q = own_papers_lem x fine words (length marks) f at found in
      go f own (with_facts f x words marks store m h u rest).2
    where
      go : (f : Papers) → f ≡ q → Taken f x words marks store m h → (papers_of_end h.end ≡ q) × Sayable h.end s
      go f own (inl (n, _, t, _)) =
          let r = (step_of f.program n).left.relation in
          rw t.end (refl, step_sayable r (applied_of x r + 1) (subst (λ (y : Papers). r < relation_count y.envelope) own (here_below f.envelope x.site r t.here)))
      go f own (inr (r, _, t, _)) = rw t.end (refl, rows_sayable r (length m) (omega (arith, t.fits, small)))

module _ (e p : List ℕ) (all : Bytes e) (each : Bytes p) (s words marks store m : List ℕ) (counted : get_or s 2 0 ≤ 4294967295) where
  -- after a message that is taken the state is read as the end that receiving gave, and its used is a word
  pub received_read : (h : Held) (u : ℕ) → receive_from e p s words marks store m ≡ good h u
      → (at : ℕ) × (end_in e p (state_after h.end s) ≡ good h.end at) × (h.end.used ≤ 4294967295)
  unfolding receive_from receive_given
  received_read h u taken =
      let (x, at, read, rest) = next_good (end_in e p s) _ h u taken in
      let (short, received) = (judged_good (test (ltb 4294967295 (length store)) BeyondLimit 0 ∷ []) _ h u).0 rest in
      let small : length store ≤ 4294967295 = ltb-false _ _ (each_passes (test (ltb 4294967295 (length store)) BeyondLimit 0 ∷ []) short).0 in
      let (long, q, papers, is) = end_parts e p s x at read in
      let given : receive_of (end_of q s) words marks store m ≡ good h u =
      subst (λ (y : End). receive_of y words marks store m ≡ good h u) is received in
      let (own, sayable) = taken_sayable q (papers_good e p all each q at papers) s words marks store m counted small h u given in
      (at, read_again e p s long q at papers h.end own sayable, sayable.counted)

-- ---- opening

module _ (e p : List ℕ) (all : Bytes e) (each : Bytes p) (site run : ℕ) (words marks s : List ℕ) where
  start_sayable : (q : Papers) → ((r : ℕ) → relation_count q.envelope ≤ r → r < 8 → get_or s (3 + r) 0 ≡ 0) → Sayable (start_of q site run) s
  unfolding start_of
  start_sayable q behind =
      record { counted = omega arith; eight = (refl, refl); behind = λ r l k. get_or-replicate 8 r 0 0 k ∙ sym (behind r l k) }

  -- a state that is opened is read as the end that opening gave, where its applied words behind the last relation, which stay, are 0
  pub opened_read : (m : Marked) (u : ℕ) → open_from e p site run words marks s ≡ good m u
      → ((r : ℕ) → relation_count m.end.envelope ≤ r → r < 8 → get_or s (3 + r) 0 ≡ 0)
      → (at : ℕ) × (end_in e p (state_after m.end s) ≡ good m.end at)
  unfolding open_from open_given start_of
  opened_read m u opened behind =
      let (q, at, papers, rest) = next_good (papers_in e p) _ m u opened in
      let (n, v, start, more) = next_good (open_of q.envelope q.program site run words marks) _ m u rest in
      let (short, made) = (judged_good (test (ltb (length s) 19) TooShort 0 ∷ []) (good n v) m u).0 more in
      let long : 19 ≤ length s = ltb-false _ _ (each_passes (test (ltb (length s) 19) TooShort 0 ∷ []) short).0 in
      let (f, w, check, by) = open_facts site run words marks q.envelope q.program n v start in
      let whole = sym check ∙ papers_complete q (papers_good e p all each q at papers) in
      let own : f ≡ q = cc in
      let same : n ≡ m = cc in
      let is : m.end ≡ start_of q site run = ap (λ (k : Marked). k.end) (sym same) ∙ by.start ∙ ap (λ (k : Papers). start_of k site run) own in
      let zeros : (r : ℕ) → relation_count q.envelope ≤ r → r < 8 → get_or s (3 + r) 0 ≡ 0 =
      subst (λ (y : End). (r : ℕ) → relation_count y.envelope ≤ r → r < 8 → get_or s (3 + r) 0 ≡ 0) is behind in (
        at,
        subst (λ (y : End). end_in e p (state_after y s) ≡ good y at) (sym is)
            (read_again e p s long q at papers (start_of q site run) refl (start_sayable q zeros)),
      )
