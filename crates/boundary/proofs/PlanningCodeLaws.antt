-- The laws of the calls that plan and estimate: the loops over lines, and each return.
use mathlib.Core.Path.{◌≡◌, refl, sym, ap, ◌∙◌}
use mathlib.Core.List.{List, [], ◌∷◌, ◌++◌}
use Prim.Native.Nat.{ℕ, suc, ◌+◌, ◌*◌, ◌≤◌, ◌<◌, ◌%◌, ◌/◌}
use native.Mathlib.Numerals.{add-one}
use native.Mathlib.Omega.{arith}
use lib.ListN.{length, get_or, take, set, length-append}
use lib.Seq.{sets, take_all}
use Rattle.std.specs.Prelude.{Result, Ok, Err}
use Rattle.ground.specs.Lists.{each}
use Rattle.ground.specs.Outcome.{Outcome, taken_of, leaves}
use Rattle.ground.specs.Outcome.Outcome.{good}
use Rattle.ground.specs.Refusals.{refusal}
use Rattle.ground.specs.declared.refusals.Reason.TheVariants.{TooShort}
use Rattle.ground.specs.declared.refusals.Refusal.{Refusal}
use Rattle.ground.proofs.OutcomeLaws.{good_bad, value_good, value_bad}
use Rattle.ground.proofs.PuttingLaws.{putting_place, putting_done, sets_append}
use Rattle.ground.proofs.WritingLaws.{Writing, writing_more}
use Rattle.fields.specs.Puts.{fitted, Puts}
use Rattle.fields.proofs.PutLaws.{Writes, writes_bad, writes_good, fitted_short, fitted_fits}
use Rattle.envelopes.specs.Envelope.{read_envelope}
use Rattle.contents.specs.declared.envelope.Envelope.{Envelope}
use Rattle.papers.specs.Programs.{no_program, write_program_of}
use Rattle.papers.specs.Checks.{papers_of}
use Rattle.paths.specs.declared.steps.Step.{Step}
use Rattle.papers.specs.declared.programs.Program.{Program}
use Rattle.papers.specs.declared.checks.Papers.{Papers}
use Rattle.estimates.specs.Costs.{plain_costs}
use Rattle.estimates.specs.Estimate.{line_steps, estimate_of}
use Rattle.planner.specs.Plan.{plan_for, plan_of}
use Rattle.estimates.specs.declared.lines.Line.{Line}
use Rattle.planner.specs.declared.plans.Plan.{Plan}
use Rattle.estimates.specs.declared.lines.Estimate.{Estimate}
use Rattle.boundary.specs.Given.{papers_in}
use Rattle.boundary.specs.Planning.{program_of, program_for, plan_from, pair_of, line_words, estimate_words, estimate_with, estimate_from}
use Rattle.boundary.proofs.CallLaws.{writes_ends, writes_goes}

-- ---- the steps of a plan's lines

pub program_is : (x : Plan) (steps : List Step) → steps ≡ line_steps x.lines → record { site = x.site; count = x.count; steps = steps } ≡ program_of x
unfolding program_of
program_is x steps f = rw f refl

-- ---- planning

module _ (s out : List ℕ) (c : Result Envelope Refusal) (g : c ≡ taken_of (read_envelope s)) where
  abbrev writing : Envelope → Outcome (List ℕ)
  writing e = write_program_of e (program_for s) (length out)

  pub plan_refused : (x : Refusal) → c ≡ Err x → Writes 0 out (plan_from s (length out)) (Err x) out
  unfolding plan_from
  plan_refused = writes_ends (read_envelope s) writing out c g

  module _ (e : Envelope) (h : c ≡ Ok e) (z : Result Plan Refusal) (k : z ≡ taken_of (plan_of (read_envelope s))) where
    -- an envelope that is read is planned
    pub plan_never : (x : Refusal) → z ≡ Err x → ⊥
    unfolding plan_of
    plan_never x v =
        let (u, o) = value_good (read_envelope s) c e g h in
        let planned : plan_of (read_envelope s) ≡ good (plan_for plain_costs e) u = ap plan_of o in
        good_bad _ _ _ _ (sym planned ∙ value_bad (plan_of (read_envelope s)) z x k v)

    pub plan_taken : (x : Plan) → z ≡ Ok x → (p : Program) → p ≡ program_of x → (v : Result ℕ Refusal) (after : List ℕ)
        → Writes 0 out (write_program_of e p (length out)) v after → Writes 0 out (plan_from s (length out)) v after
    unfolding plan_from program_for leaves
    plan_taken x t p j v after l =
        let (w, y) = value_good (plan_of (read_envelope s)) z x k t in
        let same : p ≡ program_for s = j ∙ sym (ap (leaves program_of no_program) y) in
        writes_goes (read_envelope s) writing out c g e h v after (rw same at l)

-- ---- words put

pub two_put : (out middle after : List ℕ) (at a b : ℕ) → middle ≡ sets out at (pair_of a) → after ≡ sets middle (at + 2) (pair_of b)
    → Puts out at 4 (pair_of a ++ pair_of b) (at + 4) after
unfolding pair_of
two_put out middle after at a b e f =
    let p : after ≡ sets (sets out at (pair_of a)) (at + 2) (pair_of b) =
    f ∙ ap (λ (l : List ℕ). sets l (at + 2) (pair_of b)) e in
    (refl, p ∙ sym (sets_append out at (pair_of a) (pair_of b)), omega arith)

pub pair_put : (out middle after : List ℕ) (at n : ℕ) → middle ≡ set out at (n % 4294967296) → after ≡ set middle (at + 1) (n / 4294967296)
    → after ≡ sets out at (pair_of n)
unfolding pair_of
pair_put out middle after at n e f =
    f ∙ ap (λ (l : List ℕ). set l (at + 1) (n / 4294967296)) e ∙ ap (λ (k : ℕ). set (set out at (n % 4294967296)) k (n / 4294967296)) (add-one at)

pub line_puts : (before : List ℕ) (lines : List Line) (at n i p : ℕ) (out : List ℕ) → Writing line_words 4 lines before at n i p out
    → (d : Line) (q : ℕ) (after : List ℕ) → i < n
    → Puts out p 4 (pair_of (get_or lines i d).benefit ++ pair_of (get_or lines i d).cost) q after
    → Writing line_words 4 lines before at n (i + 1) q after
unfolding line_words
line_puts before lines at n i p out w d q after h e = writing_more line_words 4 lines before at n i p out w d q after h e.0 e.1 e.2

-- all lines are put: so far, and no further
pub lines_put : (before : List ℕ) (lines : List Line) (i p : ℕ) (out : List ℕ) → Writing line_words 4 lines before 0 (length lines) i p out
    → length lines ≤ i → length lines ≤ 156 → Puts before 0 624 (each line_words lines) p out
lines_put before lines i p out w h few =
    let all : take (length lines) lines ≡ lines = take_all (length lines) lines (omega arith) in
    let inside : i ≤ length lines = w.putting.within in (
      putting_place line_words lines before 0 (length lines) i p out w.putting h ∙ ap (λ (x : List Line). 0 + length (each line_words x)) all,
      putting_done line_words lines before 0 (length lines) i p out w.putting h ∙ ap (λ (x : List Line). sets before 0 (each line_words x)) all,
      omega (arith, w.near, inside, few),
    )

-- ---- the estimate

lines_long : (l : List Line) → length (each line_words l) ≡ 4 * length l
unfolding line_words pair_of
lines_long [] = refl
lines_long (x ∷ l) =
    let more : 4 + 4 * length l ≡ 4 * suc (length l) = omega arith in
    length-append (line_words x) (each line_words l) ∙ ap (λ (k : ℕ). 4 + k) (lines_long l) ∙ more

module _ (x : Estimate) (lines : List Line) (e : lines ≡ take x.count x.lines) where
  pub words_count : length (estimate_words x) ≡ 4 * length lines + 4
  unfolding estimate_words pair_of
  words_count =
      length-append (each line_words (take x.count x.lines)) (pair_of x.assembly ++ pair_of x.total)
      ∙ ap (λ (k : ℕ). k + 4) (lines_long (take x.count x.lines))
      ∙ ap (λ (l : List Line). 4 * length l + 4) (sym e)

  module _ (out : List ℕ) where
    abbrev Estimates : Result ℕ Refusal → List ℕ → Type 0
    Estimates z after = Writes 0 out (fitted (length out) (estimate_words x)) z after

    pub estimate_short : length out < 4 * length lines + 4 → Estimates (Err (refusal TooShort 0)) out
    estimate_short h =
        writes_bad 0 out (fitted (length out) (estimate_words x)) TooShort 0
        (fitted_short (length out) (estimate_words x) (omega (arith, h, words_count)))

    abbrev body : List ℕ
    body = each line_words (take x.count x.lines)

    abbrev foot : List ℕ
    foot = pair_of x.assembly ++ pair_of x.total

    module _ (middle after : List ℕ) (p q : ℕ) (f : Puts out 0 624 (each line_words lines) p middle)
        (g : Puts middle p 4 (pair_of x.assembly ++ pair_of x.total) q after) where
      own : Puts out 0 624 body p middle
      own = rw e at f

      put_whole : after ≡ sets out 0 (estimate_words x)
      unfolding estimate_words
      put_whole =
          g.1
          ∙ ap (λ (l : List ℕ). sets l p foot) own.1
          ∙ ap (λ (k : ℕ). sets (sets out 0 body) k foot) own.0
          ∙ sym (sets_append out 0 body foot)

      put_far : q ≡ length (estimate_words x)
      unfolding estimate_words
      put_far = omega (arith, own.0, g.0, length-append body foot)

      pub estimate_put : 4 * length lines + 4 ≤ length out → Estimates (Ok q) after
      estimate_put h =
          writes_good 0 out (fitted (length out) (estimate_words x)) (estimate_words x) _ q after
          (fitted_fits (length out) (estimate_words x) (omega (arith, h, words_count))) put_far put_whole

module _ (e p out : List ℕ) (c : Result Papers Refusal) (g : c ≡ taken_of (papers_in e p)) where
  abbrev costing : Papers → Outcome (List ℕ)
  costing q = estimate_with (estimate_of (papers_of q.envelope q.program)) (length out)

  abbrev fitting : Estimate → Outcome (List ℕ)
  fitting x = fitted (length out) (estimate_words x)

  pub cost_refused : (x : Refusal) → c ≡ Err x → Writes 0 out (estimate_from e p (length out)) (Err x) out
  unfolding estimate_from
  cost_refused = writes_ends (papers_in e p) costing out c g

  module _ (q : Papers) (h : c ≡ Ok q) (z : Result Estimate Refusal) (k : z ≡ taken_of (estimate_of (papers_of q.envelope q.program))) where
    pub cost_judged : (x : Refusal) → z ≡ Err x → Writes 0 out (estimate_from e p (length out)) (Err x) out
    unfolding estimate_from estimate_with
    cost_judged x t =
        writes_goes (papers_in e p) costing out c g q h (Err x) out
        (writes_ends (estimate_of (papers_of q.envelope q.program)) fitting out z k x t)

    pub cost_taken : (x : Estimate) → z ≡ Ok x → (v : Result ℕ Refusal) (after : List ℕ) → Writes 0 out (fitting x) v after
        → Writes 0 out (estimate_from e p (length out)) v after
    unfolding estimate_from estimate_with
    cost_taken x t v after l =
        writes_goes (papers_in e p) costing out c g q h v after
        (writes_goes (estimate_of (papers_of q.envelope q.program)) fitting out z k x t v after l)
