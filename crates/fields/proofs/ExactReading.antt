-- The ways in which readings are made of others: each of them makes exact readings of exact ones, so that a format's proof
-- follows its definition.
use mathlib.Core.Path.{◌≡◌, refl, sym, ap, ◌∙◌}
use mathlib.Core.Bool.{Bool, true, false, false≢true}
use mathlib.Core.Logic.{◌↔◌}
use mathlib.Core.List.{List, [], ◌∷◌, ◌++◌}
use Prim.Native.Nat.{ℕ, zero, suc, ◌+◌, ◌≤◌}
use native.Mathlib.Nat.{add_assoc, add-zero}
use native.Mathlib.Omega.{arith}
use lib.ListN.{length, length-append}
use lib.Dec.{ltb}
use borrow.Author.Tests.{ltb-false, le-ltb}
use Rattle.ground.specs.Tests.{pick}
use Rattle.ground.specs.Lists.{Every, each}
use Rattle.ground.specs.Bytes.{Bytes}
use Rattle.ground.specs.Outcome.{Outcome, next, numbered}
use Rattle.ground.specs.Outcome.Outcome.{good, bad}
use Rattle.ground.proofs.OutcomeLaws.{good_bad, next_good, more_good, unless_good}
use Rattle.ground.proofs.ByteLaws.{stands_left, stands_right, stands_both, stands_self, stands_whole}
use Rattle.fields.specs.Exact.{Spans, Reads, Exact}
use Rattle.ground.specs.declared.refusals.Reason.{Reason}

-- ---- spans

spans_both : (u w s : List ℕ) (at p q : ℕ) → Spans u s at p → Spans w s p q → Spans (u ++ w) s at q
spans_both u w s at p q hu hw = (
  hw.0 ∙ ap (λ (n : ℕ). n + length w) hu.0 ∙ simp (length-append, add_assoc),
  stands_both u w s at hu.1 (rw hu.0 at hw.1),
)

spans_left : (u w s : List ℕ) (at q : ℕ) → Spans (u ++ w) s at q → Spans u s at (at + length u)
spans_left u w s at q h = (refl, stands_left u w s at h.1)

spans_right : (u w s : List ℕ) (at q : ℕ) → Spans (u ++ w) s at q → Spans w s (at + length u) q
spans_right u w s at q h = (h.0 ∙ simp (length-append, add_assoc), stands_right u w s at h.1)

-- ---- readings made of others

module _ {A : Type 0} (s : List ℕ) (at : ℕ) where
  -- nothing more is read
  pub done : (v : A) → Exact s at (good v at) (λ _. []) (λ c. c ≡ v)
  done v =
      record {
        sound = λ c p _ e. (cc, (cc (add-zero at), refl));
        complete = λ c p e h _. cc (h.0 ∙ add-zero at);
      }

  -- a refusal, where nothing is fine
  pub refused : {bytes : A → List ℕ} {Fine : A → ℕ → Type 0} (m : Reason) (q : ℕ) → ((v : A) (p : ℕ) → Fine v p → ⊥) → Reads s at (bad m q) bytes Fine
  refused m q none =
      record {
        sound = λ v p _ e. absurd (good_bad v p m q (sym e));
        complete = λ v p fine _ _. absurd (none v p fine);
      }

  -- one of two readings, by a test
  pub picked : {bytes : A → List ℕ} {Fine : A → ℕ → Type 0} {o o' : Outcome A} (b : Bool)
      → (b ≡ true → Reads s at o bytes Fine) → (b ≡ false → Reads s at o' bytes Fine) → Reads s at (pick b o o') bytes Fine
  picked true r r' = r refl
  picked false r r' = r' refl

  -- the same said in other words
  pub restated : {o : Outcome A} {bytes bytes' : A → List ℕ} {Fine Fine' : A → ℕ → Type 0}
      → ((v : A) (p : ℕ) → Fine v p → bytes' v ≡ bytes v) → ((v : A) (p : ℕ) → Fine v p → Fine' v p)
      → ((v : A) (p : ℕ) → Fine' v p → Fine v p) → Reads s at o bytes Fine → Reads s at o bytes' Fine'
  restated same there back r =
      record {
        sound = λ v p all e.
            let (fine, spans) = r.sound v p all e in
            (there v p fine, rw (same v p fine) spans);
        complete = λ v p fine spans inside.
            let before = back v p fine in
            r.complete v p before (rw (same v p before) at spans) inside;
      }

  -- a value that passes a test, and nothing more
  pub tested : (b : Bool) (v : A) (m : Reason) (q : ℕ) → Exact s at (pick b (good v at) (bad m q)) (λ _. []) (λ c. (b ≡ true) × (c ≡ v))
  tested b v m q =
      picked b (λ e. restated (λ _ _ _. refl) (λ c p h. (e, h)) (λ c p h. h.1) (done v))
      (λ e. refused m q (λ c p h. false≢true (sym e ∙ h.0)))

  -- the last of a paper: nothing may be left over
  pub last : {o : Outcome A} {Fine : A → Type 0} (m : Reason) → Exact s at o (λ _. []) Fine
      → Reads s at (pick (ltb at (length s)) (bad m at) o) (λ _. []) (λ c q. Fine c × (length s ≤ q))
  last {o} m r =
      record {
        sound = λ c q all e.
            let (none, is) = unless_good (ltb at (length s)) m at o c q e in
            let (fine, spans) = r.sound c q all is in
            let end : q ≡ at = spans.0 ∙ add-zero at in
            ((fine, rw end (ltb-false at (length s) none)), spans);
        complete = λ c q fine spans inside.
            let none : ltb at (length s) ≡ false = le-ltb at (length s) (omega (arith, fine.1, spans.0)) in
            rw none (r.complete c q fine.0 spans inside);
      }

-- a whole paper, nothing left over: it is taken exactly as the value whose bytes it is
pub whole_paper : {A : Type 0} (s : List ℕ) {o : Outcome A} {bytes : A → List ℕ} {Fine : A → Type 0}
    → Reads s 0 o bytes (λ v q. Fine v × (length s ≤ q)) → (v : A) (p : ℕ) → Bytes s
    → (o ≡ good v p) ↔ (Fine v × (s ≡ bytes v) × (p ≡ length s))
whole_paper s {o} {bytes} {Fine} r v p all = (sound, complete)
  where
    sound : o ≡ good v p → Fine v × (s ≡ bytes v) × (p ≡ length s)
    sound h =
        let ((fine, long), (end, stands)) = r.sound v p all h in
        let same : s ≡ bytes v = stands_whole (bytes v) s stands (omega arith) in
        (fine, same, omega (arith, ap length same))

    complete : Fine v × (s ≡ bytes v) × (p ≡ length s) → o ≡ good v p
    complete (fine, same, end) =
        r.complete v p (fine, omega arith) (omega (arith, ap length same), rw (sym same) (stands_self s)) (omega arith)

-- one reading, then another that goes by its value; the whole value has the first as a part
module _ {A C : Type 0} (s : List ℕ) (at : ℕ) {o : Outcome A} {bytes : A → List ℕ} {Fine : A → Type 0}
    {rest : A → C → List ℕ} {Good : A → C → ℕ → Type 0} (part : C → A) where
  pub chained : {k : A → ℕ → Outcome C} → Exact s at o bytes Fine → ((a : A) (p : ℕ) → Fine a → Reads s p (k a p) (rest a) (Good a))
      → ((a : A) (c : C) (q : ℕ) → Fine a → Good a c q → part c ≡ a)
      → Reads s at (next o k) (λ c. bytes (part c) ++ rest (part c) c) (λ c q. Fine (part c) × Good (part c) c q)
  chained {k} first second is =
      record {
        sound = λ c q all e.
            let (a, p, here, after) = next_good o k c q e in
            let (fine, spans) = first.sound a p all here in
            let (well, spans') = (second a p fine).sound c q all after in
            rw (is a c q fine well) ((fine, well), spans_both (bytes a) (rest a c) s at p q spans spans');
        complete = λ c q fine spans inside.
            let p : ℕ = at + length (bytes (part c)) in
            let left : Spans (bytes (part c)) s at p = spans_left (bytes (part c)) (rest (part c) c) s at q spans in
            let right : Spans (rest (part c) c) s p q = spans_right (bytes (part c)) (rest (part c) c) s at q spans in
            let here : o ≡ good (part c) p = first.complete (part c) p fine.0 left (omega (arith, right.0)) in
            rw here ((second (part c) p fine.0).complete c q fine.1 right inside);
      }

-- several of a kind, numbered
module _ {A : Type 0} (s : List ℕ) (item : ℕ → ℕ → Outcome A) (bytes : A → List ℕ) (Fine : A → Type 0)
    (exact : (i at : ℕ) → Exact s at (item i at) bytes Fine) where
  numbered_sound : (i n at : ℕ) (vs : List A) (p : ℕ) → Bytes s → numbered item i n at ≡ good vs p
      → (Every Fine vs × (length vs ≡ n)) × Spans (each bytes vs) s at p
  unfolding numbered
  numbered_sound i zero at vs p all e =
      let none : vs ≡ [] = cc in
      let stay : p ≡ at = cc in
      rw none ((tt, refl), (stay ∙ sym (add-zero at), refl))
  numbered_sound i (suc n) at vs p all e =
      let (v, q, here, after) = next_good (item i at) _ vs p e in
      let (ws, more, whole) = more_good (v ∷ []) (numbered item (i + 1) n q) vs p after in
      let (fine, spans) = (exact i at).sound v q all here in
      let (fines, spans') = numbered_sound (i + 1) n q ws p all more in
      rw whole (((fine, fines.0), ap suc fines.1), spans_both (bytes v) (each bytes ws) s at q p spans spans')

  numbered_complete : (i n at : ℕ) (vs : List A) (p : ℕ) → Every Fine vs × (length vs ≡ n) → Spans (each bytes vs) s at p
      → p ≤ length s → numbered item i n at ≡ good vs p
  unfolding numbered
  numbered_complete i zero at [] p fine spans inside = cc (spans.0 ∙ add-zero at)
  numbered_complete i zero at (v ∷ vs) p fine spans inside = absurd (omega (arith, fine.1))
  numbered_complete i (suc n) at [] p fine spans inside = absurd (omega (arith, fine.1))
  numbered_complete i (suc n) at (v ∷ vs) p fine spans inside =
      let q : ℕ = at + length (bytes v) in
      let left : Spans (bytes v) s at q = spans_left (bytes v) (each bytes vs) s at p spans in
      let right : Spans (each bytes vs) s q p = spans_right (bytes v) (each bytes vs) s at p spans in
      let here : item i at ≡ good v q = (exact i at).complete v q fine.0.0 left (omega (arith, right.0)) in
      let more : numbered item (i + 1) n q ≡ good vs p = numbered_complete (i + 1) n q vs p (fine.0.1, omega (arith, fine.1)) right inside in
      rw (here, more)

  pub numbered_exact : (i n at : ℕ) → Exact s at (numbered item i n at) (each bytes) (λ vs. Every Fine vs × (length vs ≡ n))
  numbered_exact i n at =
      record {
        sound = λ vs p all e. numbered_sound i n at vs p all e;
        complete = λ vs p fine spans inside. numbered_complete i n at vs p fine spans inside;
      }
