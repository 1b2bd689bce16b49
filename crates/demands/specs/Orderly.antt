-- Something happens: the run in which every message made is delivered, in program order. Every site opens its end. Each step's value
-- message is made where its right relation is and comes to where its left relation is; then each relation's row message is made
-- where it is and comes to the assembly site. So no station that refuses everything does what this says beside demand 3.
use Rattle.std.specs.Prelude.{ℕ, ◌≤◌, ◌<◌, ◌≡◌, true, List, [], ◌∷◌, ◌++◌, replicate, slice_index_or}
use Rattle.demands.specs.Words.{below, Outcome, good, relation_count, site_of, step_count, step_of, has_arrived, make_values_of, make_rows_of, receive_of}
use Rattle.demands.specs.Link.{Crew, Allowed, State, opening_at, start, Event, after, after_events, Follows, lent_store}
use Rattle.demands.specs.Link.Event.{makes_values, makes_rows, comes}

-- with so much room lent each time: a step's values are sent and come, a relation's rows are sent and come; what comes is the
-- message made last
abbrev pub sends_step : Crew → ℕ → ℕ → Event
sends_step c room n = makes_values (site_of c.papers.envelope (step_of c.papers.program n).right.relation) n room

abbrev pub brings_step : Crew → ℕ → State → ℕ → Event
brings_step c room s n = comes (site_of c.papers.envelope (step_of c.papers.program n).left.relation) (slice_index_or s.made 0 []) (replicate room 0)

abbrev pub sends_rows : Crew → ℕ → ℕ → Event
sends_rows c room r = makes_rows (site_of c.papers.envelope r) r room

abbrev pub brings_rows : Crew → ℕ → State → ℕ → Event
brings_rows c room s r = comes c.papers.program.site (slice_index_or s.made 0 []) (replicate room 0)

-- for each number in turn the one and then the other
unfoldable pub in_turn : Crew → (ℕ → Event) → (State → ℕ → Event) → State → List ℕ → List Event
in_turn c sends brings s [] = []
in_turn c sends brings s (n ∷ ns) =
    let mid = after c s (sends n) in
    sends n ∷ brings mid n ∷ in_turn c sends brings (after c mid (brings mid n)) ns

unfoldable pub in_order : Crew → ℕ → List Event
in_order c room =
    let steps = in_turn c (sends_step c room) (brings_step c room) (start c) (below (step_count c.papers.program)) in
    steps ++ in_turn c (sends_rows c room) (brings_rows c room) (after_events c (start c) steps) (below (relation_count c.papers.envelope))

-- the call of an event is taken; of each event of a list
abbrev pub Goes : {A : Type 0} → Outcome A → Type 0
Goes {A} o = (v : A) × (u : ℕ) × (o ≡ good v u)

abbrev pub IsTaken : Crew → State → Event → Type 0
IsTaken c s (makes_values site n room) = Goes (make_values_of (s.at site).end (c.tables site) (s.at site).marks n room)
IsTaken c s (makes_rows site r room) = Goes (make_rows_of (s.at site).end (c.tables site) (s.at site).marks r room)
IsTaken c s (comes site m behind) = Goes (receive_of (s.at site).end (c.tables site) (s.at site).marks (lent_store (s.at site) behind) m)

abbrev pub AllTaken : Crew → State → List Event → Type 0
AllTaken c s [] = Unit {0}
AllTaken c s (x ∷ xs) = IsTaken c s x × AllTaken c (after c s x) xs

-- every call of it is taken, the openings first, and at its end every relation's row message has arrived
pub record Happens (c : Crew) (room : ℕ) : Type 0 where
  pub opened : (site : ℕ) → site ≤ 7 → Goes (opening_at c site)
  pub possible : Follows c (start c) (in_order c room)
  pub taken : AllTaken c (start c) (in_order c room)
  pub arrived : (r : ℕ) → r < relation_count c.papers.envelope
      → has_arrived ((after_events c (start c) (in_order c room)).at c.papers.program.site).end r ≡ true

-- with 16,400 words lent each time, or more
abbrev pub InOrder : Type 0
InOrder = (c : Crew) → Allowed c → (room : ℕ) → 16400 ≤ room → Happens c room
