-- The answering station: from what it holds it answers as the envelope on all tables does, once every relation's row message has
-- arrived; until then it says which is the first missing.
use mathlib.Core.Path.{◌≡◌, refl, ap, ◌∙◌}
use mathlib.Core.Bool.{true, false}
use mathlib.Core.List.{List, []}
use Prim.Native.Nat.{ℕ, ◌≤◌, ◌<◌}
use lib.ListN.{length}
use Rattle.ground.specs.Outcome.Outcome.{good, bad}
use Rattle.ground.specs.Refusals.{number_of}
use Rattle.ground.specs.declared.refusals.Reason.TheVariants.{Waiting}
use Rattle.contents.specs.Parts.{relation_count}
use Rattle.contents.specs.declared.envelope.Envelope.{Envelope}
use Rattle.envelopes.specs.Rules.{Within}
use Rattle.paths.specs.Meaning.{answer_words}
use Rattle.papers.specs.declared.programs.Program.{Program}
use Rattle.ends.specs.Ends.{has_arrived}
use Rattle.station.specs.Making.{sent_rows}
use Rattle.station.specs.Receiving.{Held}
use Rattle.answerer.specs.Stores.{source_held, held_by, SoundRows}
use Rattle.answerer.specs.Assembly.{source_answer, assembled_outcome}
use Rattle.answerer.specs.declared.sources.Source.{Source}
use Rattle.answerer.proofs.StoreLaws.{held_lies}
use Rattle.answerer.proofs.AssemblyLaws.{Assembles, assembly_waits, assembly_answers}
use Rattle.answerer.proofs.DeliveredLaws.{Delivered, made_delivered, delivered_answer}
use Rattle.demands.specs.Link.{Crew, Allowed, State, lent_store}
use Rattle.demands.specs.DemandThree.{LowerMade, Lower}
use Rattle.demands.specs.DemandThree.Made.{values, rows}
use Rattle.demands.proofs.TakenLaws.{Kept, SoundAt, Sound, good_papers, end_taken}
use Rattle.demands.proofs.AppendedLaws.{held_map}
use Rattle.demands.proofs.SoundLaws.{lent_used, lent_same}
use Rattle.demands.proofs.SaidLaws.{value_rows, rows_rows}
use Rattle.demands.proofs.ReadyLaws.{assembly_few}

-- the number of what is answered until then
pub waiting_number : number_of Waiting ≡ 12
unfolding number_of
waiting_number = refl

module _ (c : Crew) (w : Allowed c) where
  abbrev e : Envelope
  e = c.papers.envelope

  abbrev p : Program
  p = c.papers.program

  within : Within e
  within = (good_papers c w).within

  -- a row message that is held was made, so its marks keep every row that takes part in an answer
  held_delivered : (s : State) → Lower c s → (r : ℕ) (m : List ℕ) → Kept c s.made r m → Delivered e within c.run c.whole r m
  held_delivered s low r m (there, sound) = go (low.made m there)
    where
      go : LowerMade c m → Delivered e within c.run c.whole r m
      go (values n vs few is holds) = absurd (value_rows c w m n vs few is r sound.about)
      go (rows k words marks few is same covers) =
          let t : k ≡ r = rows_rows c w m k (sent_rows e words marks k) few is r sound.about in
          rw (← t, is) (made_delivered e within c.run c.whole w.sizes k few words marks same covers)

  module _ (s : State) (sound : Sound c s) (behind : List ℕ) (lent : ℕ) where
    abbrev x : Held
    x = s.at c.papers.program.site

    s_at : SoundAt c s.made p.site x
    s_at = sound p.site (assembly_few c w)

    abbrev held : List ℕ
    held = held_by x.end x.store

    -- an end that holds so assembles: the words past those in use play no part
    assembles : (y : Source) (u : ℕ) → source_held e c.run x.end.arrived held ≡ good y u
        → Assembles x.end (lent_store x behind) lent c.papers y
    assembles y u is =
        record {
          sound = end_taken c w s.made p.site (assembly_few c w) x s_at;
          here = s_at.place;
          inside = lent_used c s.made p.site x s_at behind [];
          held = (u, rw (lent_same c s.made p.site x s_at behind [], s_at.run) is);
        }

    pub waits : (r : ℕ) → r < relation_count e → has_arrived x.end r ≡ false → ((k : ℕ) → k < r → has_arrived x.end k ≡ true)
        → assembled_outcome x.end (lent_store x behind) lent ≡ bad Waiting r
    waits r h missing before =
        let (y, u, is, _) =
        held_lies e c.run held (SoundRows e c.run) (λ _ _ z. z) x.end.arrived
        (held_map e (λ _ _ z. z.1) x.end.arrived held s_at.stored) in
        assembly_waits x.end (lent_store x behind) lent c.papers y (assembles y u is) r h missing before

    pub answers : Lower c s → ((r : ℕ) → r < relation_count e → has_arrived x.end r ≡ true) → length (answer_words e c.whole) ≤ lent
        → assembled_outcome x.end (lent_store x behind) lent ≡ good (answer_words e c.whole) (length (answer_words e c.whole))
    answers low all room =
        let (y, u, is, answer) =
        delivered_answer e within c.run c.whole x.end.arrived held
        (held_map e (held_delivered s low) x.end.arrived held s_at.stored) all in
        let same : source_answer e y (held_by x.end (lent_store x behind)) ≡ answer_words e c.whole =
        ap (source_answer e y) (lent_same c s.made p.site x s_at behind []) ∙ answer in
        assembly_answers x.end (lent_store x behind) lent c.papers y (assembles y u is) all (rw same room) ∙ ap (λ (l : List ℕ). good l (length l)) same
