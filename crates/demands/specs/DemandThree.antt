-- "Then the answering station, lent enough room, gives the same answer rows in the same order as the envelope on the original
-- tables, once every table's row message has been delivered to it, and until then it says which table is missing. No row
-- arrives that the program, run in order in one place, would have removed." What is promised of a state that a crew comes to.
use Rattle.std.specs.Prelude.{ℕ, ◌+◌, ◌≤◌, ◌<◌, ◌≡◌, true, false, List, length, take, replicate}
use Rattle.demands.specs.Words.{List-as-Memᴰ, Waiting, number_of, good, bad, relation_count, is_at, Envelope, answer_words, steps_of, Program}
use Rattle.demands.specs.Words.{row_count, values_of, opened_in, stepped_all, run_marks, SameRows, FewerRows, FewerValues, Covers, Holds, step_count, step_of, steps_before, applied_of, has_arrived}
use Rattle.demands.specs.Words.{value_message, row_message, second_of, sent_rows, Held, held_by, SoundRows, OneOfEach, assembled_outcome}
use Rattle.demands.specs.Link.{Crew, Allowed, State, start, Event, Possible, lent_store, after, after_events, Follows}
use Rattle.demands.specs.Link.Event.{comes}

module _ (c : Crew) where
  abbrev e : Envelope
  e = c.papers.envelope

  abbrev p : Program
  p = c.papers.program

  -- the marks of the one-place run on all tables after its first n steps
  unfoldable pub run_after : ℕ → List ℕ
  run_after n = stepped_all e c.whole (take n (steps_of p)) (opened_in e c.whole (λ _. true) (replicate (row_count e c.whole) 0))

  -- a message is the value message of a step, with values of which one thing holds; or it is the row message of a relation, of its
  -- rows with marks of which another holds
  pub data Made (Values : ℕ → List ℕ → Type 0) (Rows : ℕ → List ℕ → List ℕ → Type 0) (m : List ℕ) : Type 0 where
    values : (n : ℕ) (vs : List ℕ) → n < step_count p → m ≡ value_message c.run n vs → Values n vs → Made Values Rows m
    rows : (r : ℕ) (words marks : List ℕ) → r < relation_count e → m ≡ row_message c.run r (sent_rows e words marks r)
        → SameRows e r words c.whole → Rows r words marks → Made Values Rows m

  -- lower half: nothing that takes part in an answer is lost. A value message has every value of its column in rows that take part
  -- in an answer, a row message every such row, and each relation's marks at its site keep every such row
  abbrev pub LowerMade : List ℕ → Type 0
  LowerMade = Made (λ n vs. Holds e c.whole vs (step_of p n).right) (λ r words marks. Covers e c.whole words marks r)

  pub record Lower (s : State) : Type 0 where
    pub kept : (site r : ℕ) → site ≤ 7 → is_at e site r ≡ true → Covers e c.whole (c.tables site) (s.at site).marks r
    pub made : (m : List ℕ) → List-as-Memᴰ m s.made → LowerMade m

  -- upper half: nothing is kept or sent that the one-place run removes. A value message has only values that its column has in the
  -- one-place run before that step, a row message only rows that the run keeps at its end, and a relation's rows kept at
  -- its site are kept by the run after as many steps of that relation
  abbrev pub UpperMade : List ℕ → Type 0
  UpperMade = Made (λ n vs. FewerValues vs (values_of e c.whole (run_after n) (step_of p n).right))
      (λ r words marks. FewerRows e r words marks c.whole (run_after (step_count p)))

  pub record Upper (s : State) : Type 0 where
    pub kept : (site r n : ℕ) → site ≤ 7 → is_at e site r ≡ true → steps_before p r n ≤ applied_of (s.at site).end r
        → FewerRows e r (c.tables site) (s.at site).marks c.whole (run_after n)
    pub made : (m : List ℕ) → List-as-Memᴰ m s.made → UpperMade m

  -- the answering station
  abbrev pub answering : State → Held
  answering s = s.at p.site

  -- its store, whatever is lent behind the used words, and however much room
  pub record Answers (s : State) : Type 0 where
    -- once every relation's row message has arrived: the envelope's answer on all tables, the same rows in the same order
    pub answer : ((r : ℕ) → r < relation_count e → has_arrived (answering s).end r ≡ true) → (behind : List ℕ) (room : ℕ) → length (answer_words c.envelope c.whole) ≤ room
        → assembled_outcome (answering s).end (lent_store (answering s) behind) room ≡ good (answer_words c.envelope c.whole) (length (answer_words c.envelope c.whole))
    -- until then 12, with the lowest relation that has not
    pub waits : (r : ℕ) → r < relation_count e → has_arrived (answering s).end r ≡ false → ((k : ℕ) → k < r → has_arrived (answering s).end k ≡ true)
        → (behind : List ℕ) (room : ℕ) → (assembled_outcome (answering s).end (lent_store (answering s) behind) room ≡ bad Waiting r) × (number_of Waiting ≡ 12)
    -- what it holds is one sound row message of each relation that has, and no row is in them that the one-place run removes
    pub held : OneOfEach e (λ r m. UpperMade m × SoundRows e c.run r m) (answering s).end.arrived (held_by (answering s).end (answering s).store)
    -- a relation's row message that comes to it, and for which there is room, has arrived then, and stays so; of every run 16,400
    -- words are room enough
    pub arrives : (r : ℕ) → r < relation_count e → (m behind : List ℕ) → List-as-Memᴰ m s.made → second_of m ≡ 256 + r
        → (answering s).end.used + length m ≤ length (lent_store (answering s) behind)
        → has_arrived (answering (after c s (comes p.site m behind))).end r ≡ true
    pub suffices : (r : ℕ) → r < relation_count e → has_arrived (answering s).end r ≡ false → (m : List ℕ) → List-as-Memᴰ m s.made → second_of m ≡ 256 + r
        → (answering s).end.used + length m ≤ 16400
    pub stays : (x : Event) → Possible c s x → (r : ℕ) → has_arrived (answering s).end r ≡ true → has_arrived (answering (after c s x)).end r ≡ true

  pub record DemandThree (s : State) : Type 0 where
    pub lower : Lower s
    pub upper : Upper s
    pub answers : Answers s
    -- and the one-place run is that of the call
    pub in_one_place : run_after (step_count p) ≡ run_marks e p c.whole (replicate (row_count e c.whole) 0)

-- demand 3, of every history from the openings
abbrev pub EveryHistory : Type 0
EveryHistory = (c : Crew) → Allowed c → (events : List Event) → Follows c (start c) events → DemandThree c (after_events c (start c) events)
