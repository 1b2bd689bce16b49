-- The laws of the whole envelope: each return of the functions that read it, and of those that check and write it.
use mathlib.Core.Path.{◌≡◌, refl, ap, sym, ◌∙◌}
use Prim.Native.Nat.{ℕ, ◌≤◌, ◌<◌}
use mathlib.Core.List.{List}
use mathlib.Core.Bool.{Bool, true, false}
use lib.ListN.{length}
use borrow.Author.Tests.{lt-ltb, le-ltb}
use Rattle.std.specs.Prelude.{Result, Ok, Err, Option, Some, None}
use Rattle.ground.specs.Tests.{pick}
use Rattle.ground.specs.Outcome.{read_of, taken_of}
use Rattle.ground.specs.Outcome.Outcome.{good, bad}
use Rattle.ground.specs.Refusals.{refusal}
use Rattle.ground.specs.declared.refusals.Reason.TheVariants.{LeftOver, NoKeptColumn}
use Rattle.ground.specs.declared.refusals.Refusal.{Refusal}
use Rattle.ground.proofs.OutcomeLaws.{value_good, value_bad, read_ends, read_goes}
use Rattle.fields.specs.Numbers.{head_of}
use Rattle.fields.specs.Puts.{fitted}
use Rattle.fields.proofs.PutLaws.{Writes, written_refused, written_front}
use Rattle.contents.specs.Parts.{no_envelope, with_version}
use Rattle.contents.specs.Kept.{lowest_bare}
use Rattle.contents.specs.declared.envelope.Envelope.{Envelope}
use Rattle.envelopes.specs.Envelope.{CPN, sizes_into, relations_into, clauses_into, targets_into, bare_outcome, ended, targets_then, clauses_then, relations_then, sizes_then, envelope_from, read_envelope, envelope_bytes, check_envelope, write_envelope_of, envelope_written, envelope_written_in}

-- ---- the end: bytes left over, a relation with no kept column

pub bare_picked : (b : Bool) (f : ℕ) (e : Envelope) (at : ℕ) → bare_outcome (pick b (Some f) None) e at ≡ pick b (bad NoKeptColumn f) (good e at)
bare_picked true f e at = refl
bare_picked false f e at = refl

module _ (s : List ℕ) (at : ℕ) (e : Envelope) where
  pub end_left : at < length s → Err (refusal LeftOver at) ≡ taken_of (ended s at e)
  unfolding ended taken_of
  end_left h = simp (lt-ltb _ _ h)

  module _ (h : length s ≤ at) (b : Option ℕ) (g : b ≡ lowest_bare e) where
    pub end_bare : (r : ℕ) → b ≡ Some r → Err (refusal NoKeptColumn r) ≡ taken_of (ended s at e)
    unfolding ended taken_of
    end_bare r k = ap (λ (c : Option ℕ). taken_of (bare_outcome c e at)) (sym k ∙ g) ∙ simp (le-ltb _ _ h)

    pub end_taken : b ≡ None → Ok e ≡ taken_of (ended s at e)
    unfolding ended taken_of
    end_taken k = ap (λ (c : Option ℕ). taken_of (bare_outcome c e at)) (sym k ∙ g) ∙ simp (le-ltb _ _ h)

-- ---- the whole, part behind part: a, b, c and d are the envelope with one part more

module _ (s : List ℕ) (r : Result (ℕ × ℕ) Refusal) (e : r ≡ read_of (head_of CPN 1 s)) where
  pub envelope_no_head : (x : Refusal) → r ≡ Err x → Err x ≡ taken_of (read_envelope s)
  unfolding envelope_from
  envelope_no_head x g = read_ends (head_of CPN 1 s) _ r e x g

  module _ (v p : ℕ) (g : r ≡ Ok (v, p)) (start : Envelope) (h : start ≡ with_version v no_envelope)
      (rs : Result (Envelope × ℕ) Refusal) (es : rs ≡ read_of (sizes_into s p start)) where
    head : (t : Result Envelope Refusal) → t ≡ taken_of (sizes_then s p start) → t ≡ taken_of (read_envelope s)
    unfolding envelope_from
    head t y = read_goes (head_of CPN 1 s) _ r e v p t g (y ∙ rw h refl)

    pub envelope_no_sizes : (x : Refusal) → rs ≡ Err x → Err x ≡ taken_of (read_envelope s)
    unfolding sizes_then
    envelope_no_sizes x gs = head _ (read_ends (sizes_into s p start) _ rs es x gs)

    module _ (a : Envelope) (q : ℕ) (gs : rs ≡ Ok (a, q)) (rr : Result (Envelope × ℕ) Refusal) (er : rr ≡ read_of (relations_into s q a)) where
      sizes : (t : Result Envelope Refusal) → t ≡ taken_of (relations_then s q a) → t ≡ taken_of (read_envelope s)
      unfolding sizes_then
      sizes t y = head t (read_goes (sizes_into s p start) _ rs es a q t gs y)

      pub envelope_no_relations : (x : Refusal) → rr ≡ Err x → Err x ≡ taken_of (read_envelope s)
      unfolding relations_then
      envelope_no_relations x gr = sizes _ (read_ends (relations_into s q a) _ rr er x gr)

      module _ (b : Envelope) (u : ℕ) (gr : rr ≡ Ok (b, u)) (rc : Result (Envelope × ℕ) Refusal) (ec : rc ≡ read_of (clauses_into s u b)) where
        relations : (t : Result Envelope Refusal) → t ≡ taken_of (clauses_then s u b) → t ≡ taken_of (read_envelope s)
        unfolding relations_then
        relations t y = sizes t (read_goes (relations_into s q a) _ rr er b u t gr y)

        pub envelope_no_clauses : (x : Refusal) → rc ≡ Err x → Err x ≡ taken_of (read_envelope s)
        unfolding clauses_then
        envelope_no_clauses x gc = relations _ (read_ends (clauses_into s u b) _ rc ec x gc)

        module _ (c : Envelope) (w : ℕ) (gc : rc ≡ Ok (c, w)) (rt : Result (Envelope × ℕ) Refusal) (et : rt ≡ read_of (targets_into s w c)) where
          clauses : (t : Result Envelope Refusal) → t ≡ taken_of (targets_then s w c) → t ≡ taken_of (read_envelope s)
          unfolding clauses_then
          clauses t y = relations t (read_goes (clauses_into s u b) _ rc ec c w t gc y)

          pub envelope_no_targets : (x : Refusal) → rt ≡ Err x → Err x ≡ taken_of (read_envelope s)
          unfolding targets_then
          envelope_no_targets x gt = clauses _ (read_ends (targets_into s w c) _ rt et x gt)

          pub envelope_is : (d : Envelope) (end : ℕ) (t : Result Envelope Refusal) → rt ≡ Ok (d, end)
              → t ≡ taken_of (ended s end d) → t ≡ taken_of (read_envelope s)
          unfolding targets_then
          envelope_is d end t gt y = clauses t (read_goes (targets_into s w c) _ rt et d end t gt y)

-- ---- a struct, checked and written

pub check_is : (e : Envelope) (l : List ℕ) (x : Result Envelope Refusal) → l ≡ envelope_bytes e → x ≡ taken_of (read_envelope l)
    → x ≡ taken_of (check_envelope e)
unfolding check_envelope
check_is e l x h y = y ∙ ap (λ (b : List ℕ). taken_of (read_envelope b)) h

module _ (e : Envelope) (out : List ℕ) (c : Result Envelope Refusal) (g : c ≡ taken_of (check_envelope e)) where
  pub write_refused : (t : Result ℕ Refusal) (x : Refusal) → c ≡ Err x → t ≡ Err x
      → (t ≡ envelope_written e out) × (out ≡ envelope_written_in e out)
  unfolding write_envelope_of
  write_refused t x v h =
      let (answer, after) = written_refused (check_envelope e) (envelope_bytes e) out x.reason x.position (value_bad (check_envelope e) c x g v) in
      (h ∙ answer, after)

  pub write_front : (l after : List ℕ) (f : Envelope) (x : Result ℕ Refusal) → c ≡ Ok f → l ≡ envelope_bytes e
      → Writes 0 out (fitted (length out) l) x after → (x ≡ envelope_written e out) × (after ≡ envelope_written_in e out)
  unfolding write_envelope_of
  write_front l after f x v h y =
      let (p, is) = value_good (check_envelope e) c f g v in
      written_front (check_envelope e) (envelope_bytes e) out f p l after x is h y
