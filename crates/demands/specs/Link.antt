-- "Let stations, one end to a site and each opened once with the same run number, run one accepted program of one envelope on
-- unchanged tables that are together within the sizes, each end's state, marks and store coming back as the last call left
-- them, the link losing, repeating, delaying or reordering messages but never altering or inventing them, and no message of
-- any other run .. bearing this run's number." A crew, what can happen to it, and what stands afterwards, by the calls' own
-- definitions.
use Rattle.std.specs.Prelude.{ℕ, ◌≤◌, ◌≡◌, true, List, [], ◌∷◌, ◌++◌, ◌⊎◌, length, nat_eq}
use Rattle.demands.specs.Words.{List-as-Memᴰ, pick, Outcome, good, bad, is_at, Envelope, Fits, papers_of}
use Rattle.demands.specs.Words.{Program, Papers, row_count, shaped, SameRows, leaves, value_of, Marked, no_end, open_of, opened_marks, make_values_of, make_rows_of, Held, receive_of, held_by}

-- the papers that every end is opened with, and the same as they read back; the run's number; the tables of all stations
-- together; and by site the tables there and the marks lent for opening
pub record Crew : Type 0 where
  pub envelope : Envelope
  pub program : Program
  pub papers : Papers
  pub run : ℕ
  pub whole : List ℕ
  pub tables : ℕ → List ℕ
  pub lent : ℕ → List ℕ

-- what demand 3 asks of it: the envelope's numbers are within the width of their fields, the program is accepted, the tables are
-- within the sizes and of the envelope's shape, a relation's rows at its site are its rows, and there is a mark for every row
pub record Allowed (c : Crew) : Type 0 where
  pub fits : Fits c.envelope
  pub accepted : (u : ℕ) × (papers_of c.envelope c.program ≡ good c.papers u)
  pub sizes : shaped c.papers.envelope c.whole ≡ true
  pub shapes : (site : ℕ) → site ≤ 7 → shaped c.papers.envelope (c.tables site) ≡ true
  pub parts : (site r : ℕ) → is_at c.papers.envelope site r ≡ true → SameRows c.papers.envelope r (c.tables site) c.whole
  pub marks : (site : ℕ) → site ≤ 7 → row_count c.papers.envelope (c.tables site) ≤ length (c.lent site)

-- its state: each site's end, marks and store, and every message made so far
pub record State : Type 0 where
  pub at : ℕ → Held
  pub made : List (List ℕ)

-- after the openings; a site that is opened late is one at which nothing happened before
abbrev pub opening_at : Crew → ℕ → Outcome Marked
opening_at c site = open_of c.envelope c.program site c.run (c.tables site) (c.lent site)

unfoldable pub site_opened : Crew → ℕ → Held
site_opened c site =
    let o = opening_at c site in record { end = leaves (λ (x : Marked). x.end) no_end o; marks = opened_marks (c.lent site) o; store = [] }

abbrev pub start : Crew → State
start c = record { at = site_opened c; made = [] }

-- ---- what can happen

-- a site makes the value message of a step, or the row message of a relation, into so much room; a message comes to a site, which
-- lends behind the used words of its store any other words
pub data Event : Type 0 where
  makes_values : (site step room : ℕ) → Event
  makes_rows : (site relation room : ℕ) → Event
  comes : (site : ℕ) (message behind : List ℕ) → Event

-- a message bears a run's number: its first word is that, and there is one
abbrev pub Bears : ℕ → List ℕ → Type 0
Bears run message = (rest : List ℕ) × (message ≡ run ∷ rest)

-- what comes is a message that was made, now or long ago, for this site or another; or one of another run, of any words
abbrev pub Possible : Crew → State → Event → Type 0
Possible c s (makes_values site step room) = site ≤ 7
Possible c s (makes_rows site relation room) = site ≤ 7
Possible c s (comes site message behind) = (site ≤ 7) × (List-as-Memᴰ message s.made ⊎ (Bears c.run message → ⊥))

-- ---- what stands afterwards

-- a making that is refused leaves everything
unfoldable pub with_made : State → Outcome (List ℕ) → State
with_made s (good m p) = record { at = s.at; made = m ∷ s.made }
with_made s (bad n p) = s

-- what is lent as the store of a site
abbrev pub lent_store : Held → List ℕ → List ℕ
lent_store x behind = held_by x.end x.store ++ behind

-- a receiving that is refused leaves the end, the marks, and the store as it was lent
unfoldable pub with_taken : State → ℕ → List ℕ → Outcome Held → State
with_taken s site store o =
    record {
      at = λ k. pick (nat_eq k site) (value_of (record { end = (s.at k).end; marks = (s.at k).marks; store = store }) o) (s.at k);
      made = s.made;
    }

unfoldable pub after : Crew → State → Event → State
after c s (makes_values site step room) = with_made s (make_values_of (s.at site).end (c.tables site) (s.at site).marks step room)
after c s (makes_rows site relation room) = with_made s (make_rows_of (s.at site).end (c.tables site) (s.at site).marks relation room)
after c s (comes site message behind) =
    let store = lent_store (s.at site) behind in
    with_taken s site store (receive_of (s.at site).end (c.tables site) (s.at site).marks store message)

-- one thing after the other, each possible where it happens
abbrev pub after_events : Crew → State → List Event → State
after_events c s [] = s
after_events c s (x ∷ xs) = after_events c (after c s x) xs

abbrev pub Follows : Crew → State → List Event → Type 0
Follows c s [] = Unit {0}
Follows c s (x ∷ xs) = Possible c s x × Follows c (after c s x) xs
