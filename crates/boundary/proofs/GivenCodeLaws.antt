-- The laws of papers and ends that are given as bytes and words: each return.
use mathlib.Core.Path.{◌≡◌, refl, sym, ap, ◌∙◌}
use mathlib.Core.Bool.{Bool, true, false}
use mathlib.Core.List.{List, [], ◌∷◌}
use Prim.Native.Nat.{ℕ, ◌≤◌, ◌<◌}
use lib.ListN.{length}
use borrow.Author.Tests.{lt-ltb, le-ltb}
use Rattle.std.specs.Prelude.{Result, Ok, Err}
use Rattle.ground.specs.Tests.{pick}
use Rattle.ground.specs.Outcome.{Outcome, next, taken_of}
use Rattle.ground.specs.Outcome.Outcome.{good, bad}
use Rattle.ground.specs.Refusals.{refusal}
use Rattle.ground.specs.Refusing.{test, judged}
use Rattle.ground.specs.declared.refusals.Reason.TheVariants.{BeyondLimit, TooShort}
use Rattle.ground.specs.declared.refusals.Refusal.{Refusal}
use Rattle.ground.proofs.CountLaws.{split}
use Rattle.ground.proofs.OutcomeLaws.{good_bad, value_good, call_ends, call_goes}
use Rattle.envelopes.specs.Envelope.{read_envelope}
use Rattle.contents.specs.declared.envelope.Envelope.{Envelope}
use Rattle.papers.specs.Programs.{read_program}
use Rattle.papers.specs.declared.programs.Program.{Program}
use Rattle.papers.specs.declared.checks.Papers.{Papers}
use Rattle.ends.specs.declared.ends.End.{End}
use Rattle.boundary.specs.States.{unclear, end_of}
use Rattle.boundary.specs.Given.{papers_in, end_in}

-- ---- papers

module _ (e p : List ℕ) (c : Result Envelope Refusal) (g : c ≡ taken_of (read_envelope e)) where
  pub given_no_envelope : (x : Refusal) → c ≡ Err x → Err x ≡ taken_of (papers_in e p)
  unfolding papers_in
  given_no_envelope x h = call_ends (read_envelope e) _ c g x h

  module _ (f : Envelope) (h : c ≡ Ok f) (r : Result Program Refusal) (k : r ≡ taken_of (read_program f p)) where
    pub given_no_program : (x : Refusal) → r ≡ Err x → Err x ≡ taken_of (papers_in e p)
    unfolding papers_in
    given_no_program x v = call_goes (read_envelope e) _ c g f _ h λ u o. call_ends (read_program f p) _ r k x v

    pub given_papers : (q : Program) → r ≡ Ok q → Ok (record { envelope = f; program = q }) ≡ taken_of (papers_in e p)
    unfolding papers_in taken_of
    given_papers q v = call_goes (read_envelope e) _ c g f _ h λ u o. call_goes (read_program f p) _ r k q _ v λ w y. refl

-- ---- ends

module _ (e p s : List ℕ) where
  short : length s < 19 → end_in e p s ≡ bad TooShort 0
  unfolding end_in
  short h = rw (lt-ltb (length s) 19 h) refl

  pub end_short : length s < 19 → Err (refusal TooShort 0) ≡ taken_of (end_in e p s)
  unfolding taken_of
  end_short h = ap taken_of (sym (short h))

  -- an end that was read had 19 words
  pub end_long : (r : Result End Refusal) → r ≡ taken_of (end_in e p s) → (x : End) → r ≡ Ok x → 19 ≤ length s
  end_long r g x t =
      split 19 (length s) (λ k. k) (λ k. let (u, o) = value_good (end_in e p s) r x g t in absurd (good_bad x u TooShort 0 (sym o ∙ short k)))

  module _ (h : 19 ≤ length s) (c : Result Papers Refusal) (g : c ≡ taken_of (papers_in e p)) where
    abbrev tested : Papers → ℕ → Outcome End
    tested q at = judged (test (unclear s) BeyondLimit 0 ∷ []) (good (end_of q s) at)

    by_papers : end_in e p s ≡ next (papers_in e p) tested
    unfolding end_in
    by_papers = rw (le-ltb (length s) 19 h) refl

    pub end_no_papers : (x : Refusal) → c ≡ Err x → Err x ≡ taken_of (end_in e p s)
    end_no_papers x k = call_ends (papers_in e p) tested c g x k ∙ ap taken_of (sym by_papers)

    module _ (q : Papers) (t : c ≡ Ok q) (b : Bool) (f : b ≡ unclear s) where
      by_words : (d : Bool) → b ≡ d → (u : ℕ) → papers_in e p ≡ good q u
          → end_in e p s ≡ pick d (bad BeyondLimit 0) (good (end_of q s) u)
      by_words d w u o =
          by_papers
          ∙ ap (λ (o : Outcome Papers). next o tested) o
          ∙ ap (λ (d : Bool). pick d (bad BeyondLimit 0) (good (end_of q s) u)) (sym f ∙ w)

      pub end_unclear : b ≡ true → Err (refusal BeyondLimit 0) ≡ taken_of (end_in e p s)
      unfolding taken_of
      end_unclear w = let (u, o) = value_good (papers_in e p) c q g t in ap taken_of (sym (by_words true w u o))

      pub end_read : b ≡ false → (x : End) → x ≡ end_of q s → Ok x ≡ taken_of (end_in e p s)
      unfolding taken_of
      end_read w x k = let (u, o) = value_good (papers_in e p) c q g t in ap Ok k ∙ ap taken_of (sym (by_words false w u o))
