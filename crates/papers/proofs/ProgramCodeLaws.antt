-- The laws of programs read, checked and written: each return of the functions that do so. Steps are read by any test of
-- whether a step is lawful.
use mathlib.Core.Path.{◌≡◌, ap, ◌∙◌}
use Prim.Native.Nat.{ℕ, ◌+◌, ◌≤◌, ◌<◌}
use mathlib.Core.List.{List}
use mathlib.Core.Bool.{Bool, true, false}
use lib.ListN.{length, get_or, set, replicate}
use borrow.Author.Tests.{lt-ltb, le-ltb}
use Rattle.std.specs.Prelude.{Result, Ok, Err}
use Rattle.ground.specs.Outcome.{read_of, taken_of}
use Rattle.ground.specs.Refusals.{refusal}
use Rattle.ground.specs.declared.refusals.Reason.TheVariants.{BeyondLimit, LeftOver, NotLegal}
use Rattle.ground.specs.declared.refusals.Refusal.{Refusal}
use Rattle.ground.proofs.OutcomeLaws.{read_good, read_bad, value_good, value_bad, passes_on, goes_on, read_ends, read_goes, call_ends, call_goes}
use Rattle.ground.proofs.FillingLaws.{Filling, filling_start, filling_more, filling_bad, filling_good, filling_length, filling_array}
use Rattle.fields.specs.Numbers.{number_at, number_that, number_in, head_of}
use Rattle.fields.specs.Puts.{fitted}
use Rattle.fields.proofs.NumberLaws.{at_good, one_byte}
use Rattle.fields.proofs.PutLaws.{Writes, written_refused, written_front}
use Rattle.entries.specs.Places.{place_at}
use Rattle.contents.specs.Sites.{holds}
use Rattle.entries.specs.declared.places.Place.{Place}
use Rattle.envelopes.specs.Envelope.{check_envelope}
use Rattle.contents.specs.declared.envelope.Envelope.{Envelope}
use Rattle.envelopes.proofs.ExactEnvelope.{check_sound}
use Rattle.envelopes.specs.Rules.{Within}
use Rattle.paths.specs.Labels.{labels_of, by_labels}
use Rattle.paths.specs.Steps.{step, legal_by}
use Rattle.papers.specs.Programs.{no_step, SJP, step_at, ended_program, steps_from, steps_then, program_by, program_against, read_program, program_bytes, check_program, write_program_of, program_written, program_written_in}
use Rattle.paths.specs.declared.labels.Labels.{Labels}
use Rattle.paths.specs.declared.steps.Step.{Step}
use Rattle.papers.specs.declared.programs.Program.{Program}
use Rattle.papers.proofs.ProgramLaws.{program_by_labels}

module _ (lawful : Step → Bool) (e : Envelope) (s : List ℕ) where
  -- ---- a step

  module _ (i at : ℕ) (r : Result (Place × ℕ) Refusal) (f : r ≡ read_of (place_at e.relation_count e.relations s at)) where
    pub step_no_left : (x : Refusal) → r ≡ Err x → Err x ≡ read_of (step_at lawful e s i at)
    unfolding step_at
    step_no_left x g = passes_on (place_at e.relation_count e.relations s at) _ r f x g

    module _ (a : Place) (u : ℕ) (g : r ≡ Ok (a, u)) (r' : Result (Place × ℕ) Refusal)
        (f' : r' ≡ read_of (place_at e.relation_count e.relations s u)) where
      pub step_no_right : (x : Refusal) → r' ≡ Err x → Err x ≡ read_of (step_at lawful e s i at)
      unfolding step_at
      step_no_right x g' =
          goes_on (place_at e.relation_count e.relations s at) _ r f a u _ g
          (passes_on (place_at e.relation_count e.relations s u) _ r' f' x g')

      module _ (b : Place) (q : ℕ) (g' : r' ≡ Ok (b, q)) (t : Bool) (k : t ≡ lawful (step a b)) where
        pub step_is : t ≡ true → Ok (step a b, q) ≡ read_of (step_at lawful e s i at)
        unfolding step_at read_of
        step_is h =
            simp (
              read_good (place_at e.relation_count e.relations s at) r a u f g,
              read_good (place_at e.relation_count e.relations s u) r' b q f' g',
              ← k,
              h,
            )

        pub step_not_legal : t ≡ false → Err (refusal NotLegal i) ≡ read_of (step_at lawful e s i at)
        unfolding step_at read_of
        step_not_legal h =
            simp (
              read_good (place_at e.relation_count e.relations s at) r a u f g,
              read_good (place_at e.relation_count e.relations s u) r' b q f' g',
              ← k,
              h,
            )

  -- ---- the steps in the array

  -- of n steps to be read from at on, i are read
  abbrev pub Steps : ℕ → ℕ → ℕ → ℕ → List Step → Type 0
  Steps n at i p out = Filling 156 no_step (step_at lawful e s) n at i p out

  pub steps_start : (n at : ℕ) (x : Step) → x ≡ no_step → n ≤ 156 → Steps n at 0 at (replicate 156 x)
  steps_start n at x h k = rw h (filling_start 156 no_step (step_at lawful e s) n at k)

  module _ (site n at i p : ℕ) (out : List Step) (f : Steps n at i p out) where
    module _ (h : i < n) (r : Result (Step × ℕ) Refusal) (g : r ≡ read_of (step_at lawful e s i p)) where
      pub steps_more : (v : Step) (q : ℕ) → r ≡ Ok (v, q) → Steps n at (i + 1) q (set out i v)
      steps_more v q k =
          filling_more 156 no_step (step_at lawful e s) n at i p out v q f h (read_good (step_at lawful e s i p) r v q g k)

      pub steps_bad : (x : Refusal) → r ≡ Err x → Err x ≡ taken_of (steps_from lawful e s site n at)
      unfolding taken_of
      steps_bad x k =
          simp
          (filling_bad 156 no_step (step_at lawful e s) n at i p out x.reason x.position f h (read_bad (step_at lawful e s i p) r x g k))

    module _ (h : n ≤ i) where
      pub steps_left : p < length s → Err (refusal LeftOver p) ≡ taken_of (steps_from lawful e s site n at)
      unfolding ended_program taken_of
      steps_left k = simp (filling_good 156 no_step (step_at lawful e s) n at i p out f h, lt-ltb _ _ k)

      pub steps_done : length s ≤ p → Ok (record { site = site; count = n; steps = out }) ≡ taken_of (steps_from lawful e s site n at)
      unfolding ended_program taken_of
      steps_done k =
          simp (
            filling_good 156 no_step (step_at lawful e s) n at i p out f h,
            le-ltb _ _ k,
            filling_length 156 no_step (step_at lawful e s) n at i p out f h,
            filling_array 156 no_step (step_at lawful e s) n at i p out f h,
          )

  -- ---- the count

  module _ (site at : ℕ) (r : Result (ℕ × ℕ) Refusal) (g : r ≡ read_of (number_in 1 0 156 s at)) where
    pub count_bad : (x : Refusal) → r ≡ Err x → Err x ≡ taken_of (steps_then lawful e s site at)
    unfolding steps_then
    count_bad x h = read_ends (number_in 1 0 156 s at) _ r g x h

    pub count_good : (k q : ℕ) → r ≡ Ok (k, q) → (t : Result Program Refusal) → t ≡ taken_of (steps_from lawful e s site k q)
        → t ≡ taken_of (steps_then lawful e s site at)
    unfolding steps_then
    count_good k q h t y = read_goes (number_in 1 0 156 s at) _ r g k q t h y

  -- ---- the mark, the version and the site

  module _ (r : Result (ℕ × ℕ) Refusal) (g : r ≡ read_of (head_of SJP 1 s)) where
    pub program_no_head : (x : Refusal) → r ≡ Err x → Err x ≡ taken_of (program_by lawful e s)
    unfolding program_by
    program_no_head x h = read_ends (head_of SJP 1 s) _ r g x h

    module _ (v p : ℕ) (h : r ≡ Ok (v, p)) (r' : Result (ℕ × ℕ) Refusal) (g' : r' ≡ read_of (number_at 1 s p)) where
      pub program_no_site : (x : Refusal) → r' ≡ Err x → Err x ≡ taken_of (program_by lawful e s)
      unfolding program_by number_that taken_of
      program_no_site x k = simp (read_good (head_of SJP 1 s) r v p g h, read_bad (number_at 1 s p) r' x g' k)

      module _ (site q : ℕ) (h' : r' ≡ Ok (site, q)) (t : Bool) (k : t ≡ holds e site) where
        pub program_nowhere : t ≡ false → Err (refusal BeyondLimit p) ≡ taken_of (program_by lawful e s)
        unfolding program_by number_that taken_of
        program_nowhere l = simp (read_good (head_of SJP 1 s) r v p g h, read_good (number_at 1 s p) r' site q g' h', ← k, l)

        pub program_goes : t ≡ true → (x : Result Program Refusal) → x ≡ taken_of (steps_then lawful e s site q) → x ≡ taken_of (program_by lawful e s)
        unfolding program_by number_that
        program_goes l x y = y ∙ simp (read_good (head_of SJP 1 s) r v p g h, read_good (number_at 1 s p) r' site q g' h', ← k, l)

-- a number of one byte is the byte there
pub site_byte : (s : List ℕ) (at : ℕ) (r : Result (ℕ × ℕ) Refusal) (v q : ℕ) → r ≡ read_of (number_at 1 s at) → r ≡ Ok (v, q)
    → v ≡ get_or s at 0
site_byte s at r v q g h = (at_good 1 s at v q (read_good (number_at 1 s at) r v q g h)).2 ∙ one_byte s at

-- ---- the envelope first, then the program against what came back, by its labels

module _ (e : Envelope) (s : List ℕ) (c : Result Envelope Refusal) (g : c ≡ taken_of (check_envelope e)) where
  pub envelope_refused : (x : Refusal) → c ≡ Err x → Err x ≡ taken_of (read_program e s)
  unfolding read_program
  envelope_refused x h = call_ends (check_envelope e) _ c g x h

  pub envelope_taken : (f : Envelope) → c ≡ Ok f → (l : Labels) → l ≡ record { of = labels_of f } → (t : Result Program Refusal)
      → t ≡ taken_of (program_by (legal_by (by_labels l.of f) f) f s) → t ≡ taken_of (read_program e s)
  unfolding read_program
  envelope_taken f h l k t y =
      call_goes (check_envelope e) _ c g f t h λ p o.
      y
      ∙ ap (λ (m : Labels). taken_of (program_by (legal_by (by_labels m.of f) f) f s)) k
      ∙ ap taken_of (program_by_labels f (check_sound e f p o).0.0 s)

-- ---- a struct, checked and written

pub against_is : (e : Envelope) → Within e → (a : Program) (l : Labels) (b : List ℕ) (t : Result Program Refusal)
    → l ≡ record { of = labels_of e } → b ≡ program_bytes a → t ≡ taken_of (program_by (legal_by (by_labels l.of e) e) e b)
    → t ≡ taken_of (program_against e (program_bytes a))
against_is e w a l b t f h y =
    y
    ∙ ap (λ (k : Labels). taken_of (program_by (legal_by (by_labels k.of e) e) e b)) f
    ∙ ap (λ (o : List ℕ). taken_of (program_by (legal_by (by_labels (labels_of e) e) e) e o)) h
    ∙ ap taken_of (program_by_labels e w (program_bytes a))

module _ (e : Envelope) (a : Program) (out : List ℕ) (c : Result Program Refusal) (g : c ≡ taken_of (check_program e a)) where
  pub write_refused : (x : Refusal) → c ≡ Err x → (Err x ≡ program_written e a out) × (out ≡ program_written_in e a out)
  unfolding write_program_of
  write_refused x h =
      written_refused (check_program e a) (program_bytes a) out x.reason x.position (value_bad (check_program e a) c x g h)

  pub write_front : (l after : List ℕ) (x : Result ℕ Refusal) (f : Program) → c ≡ Ok f → l ≡ program_bytes a
      → Writes 0 out (fitted (length out) l) x after → (x ≡ program_written e a out) × (after ≡ program_written_in e a out)
  unfolding write_program_of
  write_front l after x f v h y =
      let (p, o) = value_good (check_program e a) c f g v in
      written_front (check_program e a) (program_bytes a) out f p l after x o h y
