-- Demand 3 holds: what holds at the openings and stays so with every event holds of every history.
use mathlib.Core.Path.{◌≡◌, sym, ap, ◌∙◌}
use mathlib.Core.Bool.{true}
use Prim.Native.Nat.{ℕ}
use mathlib.Core.List.{List, [], ◌∷◌}
use native.Mathlib.Omega.{arith}
use lib.ListN.{length, replicate}
use lib.Seq.{take_all}
use Rattle.ground.specs.Outcome.Outcome.{good}
use Rattle.ground.proofs.OutcomeLaws.{next_good}
use Rattle.contents.specs.declared.envelope.Envelope.{Envelope}
use Rattle.envelopes.specs.Envelope.{check_envelope}
use Rattle.paths.specs.Meaning.{answer_rows, words_of_rows, answer_words}
use Rattle.papers.specs.Programs.{steps_of, program_against, program_bytes}
use Rattle.papers.specs.Checks.{papers_of}
use Rattle.papers.specs.declared.checks.Papers.{Papers}
use Rattle.papers.proofs.TidyLaws.{taken_means}
use Rattle.paths.specs.declared.steps.Step.{Step}
use Rattle.tables.specs.Offsets.{row_count}
use Rattle.semijoin.specs.Local.{opened_in}
use Rattle.semijoin.specs.Run.{stepped_all, run_marks}
use Rattle.semijoin.proofs.CallPromiseLaws.{call_promise}
use Rattle.ends.specs.Reducing.{step_count}
use Rattle.answerer.specs.Stores.{held_by}
use Rattle.demands.specs.Link.{Crew, Allowed, State, start, Event, after, after_events, Follows}
use Rattle.demands.specs.DemandThree.{run_after, Lower, Upper, answering, DemandThree, EveryHistory}
use Rattle.demands.proofs.TakenLaws.{Sound}
use Rattle.demands.proofs.AppendedLaws.{held_map}
use Rattle.demands.proofs.StartLaws.{sound_start, sound_next}
use Rattle.demands.proofs.LowerLaws.{lower_start, lower_next}
use Rattle.demands.proofs.UpperLaws.{upper_start, upper_next}
use Rattle.demands.proofs.ReadyLaws.{assembly_few}
use Rattle.demands.proofs.AssembledLaws.{waits, waiting_number, answers}
use Rattle.demands.proofs.RoomLaws.{Roomy, room_start, room_next, arrived_stays, row_arrives, row_suffices}

-- an envelope and the same as it reads back give the same answer
same_answer : (c : Crew) → Allowed c → answer_words c.papers.envelope c.whole ≡ answer_words c.envelope c.whole
unfolding papers_of
same_answer c w =
    let (f, u, check, rest) = next_good (check_envelope c.envelope) _ c.papers w.accepted.0 w.accepted.1 in
    let (g, v, read, made) = next_good (program_against f (program_bytes c.program)) _ c.papers w.accepted.0 rest in
    let both : record { envelope = f; program = g } ≡ c.papers = cc in
    let same : f ≡ c.papers.envelope = ap (λ (q : Papers). q.envelope) both in
    ap words_of_rows (ap (λ (e : Envelope). answer_rows e c.whole) (sym same) ∙ (taken_means c.envelope f u w.fits check).4 c.whole)

run_whole : (c : Crew) → run_after c (step_count c.papers.program)
    ≡ run_marks c.papers.envelope c.papers.program c.whole (replicate (row_count c.papers.envelope c.whole) 0)
unfolding run_after
run_whole c =
    let e = c.papers.envelope in
    ap (λ (l : List Step). stepped_all e c.whole l (opened_in e c.whole (λ _. true) (replicate (row_count e c.whole) 0)))
    (take_all (step_count c.papers.program) (steps_of c.papers.program) (omega arith))
    ∙ sym (call_promise.run_is e c.papers.program c.whole (replicate (row_count e c.whole) 0))

-- what holds of every state that the crew comes to
record Always (c : Crew) (w : Allowed c) (s : State) : Type 0 where
  sound : Sound c s
  lower : Lower c s
  upper : Upper c s
  roomy : Roomy c w s

module _ (c : Crew) (w : Allowed c) where
  always_start : Always c w (start c)
  always_start =
      record { sound = λ site small. sound_start c w site small; lower = lower_start c w; upper = upper_start c w; roomy = room_start c w }

  always_after : (events : List Event) (s : State) → Always c w s → Follows c s events → Always c w (after_events c s events)
  always_after [] s a f = a
  always_after (x ∷ xs) s a f =
      always_after xs (after c s x)
      (record {
        sound = sound_next c w s x a.sound f.0;
        lower = lower_next c w s x a.sound a.lower f.0;
        upper = upper_next c w s x a.sound a.upper f.0;
        roomy = room_next c w s x a.sound a.lower a.roomy f.0;
      })
      f.1

  demanded : (s : State) → Always c w s → DemandThree c s
  demanded s a =
      record {
        lower = a.lower;
        upper = a.upper;
        answers =
            record {
              answer = λ all behind lent room.
                  answers c w s a.sound behind lent a.lower all (rw (same_answer c w) room)
                  ∙ ap (λ (l : List ℕ). good l (length l)) (same_answer c w);
              waits = λ r h missing before behind lent. (waits c w s a.sound behind lent r h missing before, waiting_number);
              held =
                  held_map c.papers.envelope (λ r m k. (a.upper.made m k.0, k.1)) (answering c s).end.arrived
                  (held_by (answering c s).end (answering c s).store) (a.sound c.papers.program.site (assembly_few c w)).stored;
              arrives = λ r h m behind there second wide. row_arrives c w s a.sound a.lower a.roomy r h m behind there second wide;
              suffices = λ r h new m there second. row_suffices c w s a.sound a.lower a.roomy r h new m there second;
              stays = λ x possible r t. arrived_stays c w s x a.sound possible c.papers.program.site (assembly_few c w) r t;
            };
        in_one_place = run_whole c;
      }

pub demand_three : EveryHistory
demand_three c w events f = demanded c w (after_events c (start c) events) (always_after c w events (start c) (always_start c w) f)
