-- The laws that the code of the greedy program goes by: what each return answers, and what holds at the heads of its loops.
use mathlib.Core.Path.{◌≡◌, refl, sym, ap, ◌∙◌}
use mathlib.Core.Bool.{true, not}
use mathlib.Core.List.{List, [], ◌∷◌, ◌++◌, append-nil, Memᴰ}
use mathlib.Core.Option.{Option, none, some}
use Prim.Native.Nat.{ℕ, zero, suc, ◌+◌, ◌-◌, ◌≤◌, ◌<◌}
use native.Mathlib.Nat.{le_refl, le_trans}
use native.Mathlib.Omega.{arith}
use lib.ListN.{length, get_or, set, take, length-append}
use lib.Seq.{append_snoc, take-suc, take_all}
use Rattle.ground.specs.Lists.{Every, filter}
use Rattle.ground.specs.Choice.{first_of_greatest}
use Rattle.ground.proofs.EveryLaws.{every_at, every_of, every_get_d, every_filter}
use Rattle.ground.proofs.ChoiceLaws.{or_later, greatest_first, greatest_later}
use Rattle.contents.specs.declared.envelope.Envelope.{Envelope}
use Rattle.paths.specs.Steps.{legal, legal_steps}
use Rattle.papers.specs.Programs.{no_step}
use Rattle.paths.specs.declared.steps.Step.{Step}
use Rattle.paths.proofs.StepLaws.{legal_member}
use Rattle.paths.proofs.StepCountLaws.{legal_few}
use Rattle.estimates.specs.Profile.{rows_after, after_step, benefit, local_profile}
use Rattle.estimates.specs.Costs.{step_cost}
use Rattle.estimates.specs.Kind.{Kind, after_all}
use Rattle.planner.specs.Choice.{gain, without, greedy}
use Rattle.estimates.specs.Estimate.{same_step, kind_of, line}
use Rattle.planner.specs.Plan.{greedy_steps}
use Rattle.planner.specs.Few.{shown_few, shown_choice}
use Rattle.estimates.specs.Ready.{Low, Ready, Bounded, Shrinks}
use Rattle.estimates.specs.declared.profiles.Profile.{Profile}
use Rattle.estimates.specs.declared.costs.Costs.{Costs}
use Rattle.estimates.specs.declared.lines.Line.{Line}
use Rattle.planner.specs.declared.few.Few.{Few}
use Rattle.std.specs.Prelude.{Some, None, Option as Answer}
use Rattle.planner.proofs.FewLaws.{few_count, few_used, few_push, choice_none, choice_some}
use Rattle.planner.specs.declared.choice.Greedy.{Greedy}
use Rattle.ground.proofs.SublistLaws.{fewer, first_mem}
use Rattle.planner.proofs.ChoiceLaws.{same_self}
use Rattle.estimates.proofs.ProfileLaws.{Inside, local_inside, rows_after_lem, step_inside}
use Rattle.estimates.proofs.EstimateLaws.{step_tells}
use Rattle.estimates.proofs.BoundCodeLaws.{inside_bounded}
use native.Mathlib.Numerals.{add-one}
use borrow.Author.Tests.{lt-ltb, le-ltb}
use lib.Dec.{ltb}
use Rattle.ground.specs.Tests.{pick}

-- ---- what a line says of the gain

pub gain_is : (k : Costs) (e : Envelope) (p : Profile) (s : Step) (l : Line) → l ≡ line s (benefit e p s) (step_cost k e p s)
    → l.benefit - l.cost ≡ gain (kind_of k e) p s
gain_is k e p s l f = rw f

-- ---- the first of greatest gain: of the steps i are looked at

-- what is gained by what was chosen; 0 where nothing was
abbrev gained : {A : Type 0} → (A → ℕ) → Option A → ℕ
gained g none = 0
gained g (some x) = g x

pub record Choosing {A : Type 0} (g : A → ℕ) (l : List A) (i : ℕ) (best : Answer A) (most : ℕ) : Type 0 where
  pub within : i ≤ length l
  pub best_is : best ≡ shown_choice (first_of_greatest g (take i l))
  pub most_is : most ≡ gained g (first_of_greatest g (take i l))

module _ {A : Type 0} (g : A → ℕ) where
  later : (o : Option A) (x : A) → or_later g o x ≡ pick (ltb (gained g o) (g x)) (some x) o
  later none x = refl
  later (some y) x = refl

  module _ (l : List A) where
    pub choosing_start : Choosing g l 0 None 0
    choosing_start = record { within = omega arith; best_is = refl; most_is = refl }

    module _ (i : ℕ) (best : Answer A) (most : ℕ) (c : Choosing g l i best most) where
      module _ (d : A) (h : i < length l) (v : ℕ) (f : v ≡ g (get_or l i d)) where
        one_more : first_of_greatest g (take (i + 1) l)
            ≡ pick (ltb (gained g (first_of_greatest g (take i l))) (g (get_or l i d))) (some (get_or l i d)) (first_of_greatest g (take i l))
        one_more =
            ap (λ (n : ℕ). first_of_greatest g (take n l)) (add-one i)
            ∙ ap (first_of_greatest g) (take-suc l i d h) ∙ greatest_later g (take i l) (get_or l i d)
            ∙ later (first_of_greatest g (take i l)) (get_or l i d)

        pub choosing_more : most < v → (best' : Answer A) (most' : ℕ) → best' ≡ Some (get_or l i d) → most' ≡ v → Choosing g l (i + 1) best' most'
        choosing_more t best' most' a b =
            let m : first_of_greatest g (take (i + 1) l) ≡ some (get_or l i d) = one_more ∙ rw (lt-ltb (gained g (first_of_greatest g (take i l))) (g (get_or l i d)) (omega (arith, c.most_is, f))) in
            record { within = omega arith; best_is = a ∙ sym (ap shown_choice m); most_is = b ∙ f ∙ sym (ap (gained g) m) }

        pub choosing_less : v ≤ most → (best' : Answer A) (most' : ℕ) → best' ≡ best → most' ≡ most → Choosing g l (i + 1) best' most'
        choosing_less t best' most' a b =
            let m : first_of_greatest g (take (i + 1) l) ≡ first_of_greatest g (take i l) = one_more ∙ rw (le-ltb (gained g (first_of_greatest g (take i l))) (g (get_or l i d)) (omega (arith, c.most_is, f))) in
            record { within = omega arith; best_is = a ∙ c.best_is ∙ sym (ap shown_choice m); most_is = b ∙ c.most_is ∙ sym (ap (gained g) m) }

      pub choosing_done : length l ≤ i → best ≡ shown_choice (first_of_greatest g l)
      choosing_done h = c.best_is ∙ ap (λ (x : List A). shown_choice (first_of_greatest g x)) (take_all i l h)

-- ---- the greedy program, over any kind of estimate: one turn

module _ {P S : Type 0} (k : Kind P S) where
  greedy_none : (n : ℕ) (unused : List S) (p : P) → first_of_greatest (gain k p) unused ≡ none → greedy k n unused p ≡ []
  greedy_none zero unused p e = refl
  greedy_none (suc n) unused p e =
      ap {B = List S} (λ (o : Option S). elim o [ none ↦ [] | some s ↦ s ∷ greedy k n (without k s unused) (k.after p s) ]) e

  greedy_some : (n : ℕ) (unused : List S) (p : P) (s : S) → first_of_greatest (gain k p) unused ≡ some s → 0 < n
      → greedy k n unused p ≡ s ∷ greedy k (n - 1) (without k s unused) (k.after p s)
  greedy_some zero unused p s e h = absurd (omega arith)
  greedy_some (suc n) unused p s e h =
      let m : n ≡ suc n - 1 = omega arith in
      ap {B = List S} (λ (o : Option S). elim o [ none ↦ [] | some t ↦ t ∷ greedy k n (without k t unused) (k.after p t) ]) e
      ∙ ap (λ (i : ℕ). s ∷ greedy k i (without k s unused) (k.after p s)) m

  after_more : (p : P) (ss : List S) (s : S) → after_all k p (ss ++ (s ∷ [])) ≡ k.after (after_all k p ss) s
  after_more p [] s = refl
  after_more p (t ∷ ss) s = after_more (k.after p t) ss s

-- ---- the loop: some steps are chosen, and of those left some are to be chosen still

pub record Planning (k : Costs) (e : Envelope) (unused : Few Step) (p : Profile) (x : Few Step) : Type 0 where
  pub left : List Step
  pub held : unused ≡ shown_few no_step left
  pub lawful : Every (λ (s : Step). legal e s ≡ true) left
  pub turns : ℕ
  pub enough : length left ≤ turns
  pub done : List Step
  pub chosen : x ≡ shown_few no_step done
  pub room : length done + length left ≤ 156
  pub inside : Inside e p
  pub after : after_all (kind_of k e) (local_profile e) done ≡ p
  pub same : greedy_steps k e ≡ done ++ greedy (kind_of k e) turns left p

module _ (k : Costs) (e : Envelope) (local : Profile) (ready : Ready k e local) where
  pub planning_start : (u : Few Step) → u ≡ shown_few no_step (legal_steps e) → (z : Step) → z ≡ no_step → (x : Few Step)
      → x ≡ shown_few z [] → Planning k e u local x
  unfolding greedy_steps
  planning_start u f z h x g =
      record {
        left = legal_steps e;
        held = f;
        lawful = every_of (λ (s : Step). legal e s ≡ true) (legal_steps e) (λ s m. (legal_member e s).1 m);
        turns = length (legal_steps e);
        enough = le_refl _;
        done = [];
        chosen = g ∙ ap (λ (s : Step). shown_few s []) h;
        room = omega (arith, legal_few e ready.within);
        inside = rw ready.local (local_inside e);
        after = sym ready.local;
        same = rw ready.local;
      }

  module _ (unused : Few Step) (p : Profile) (x : Few Step) (g : Planning k e unused p x) (l : List Step) (used : l ≡ take unused.count unused.all) where
    in_use : l ≡ g.left
    in_use = used ∙ few_used no_step g.left unused g.held

    pub planning_few : length l ≤ 156
    planning_few = rw in_use (omega (arith, g.room))

    pub planning_ready : Bounded k p × ((i : ℕ) → i < length l → Shrinks e p (get_or l i no_step))
    planning_ready = (
      inside_bounded k e local ready p g.inside,
      λ i h.
          let m : i < length g.left = rw in_use at h in
          rw in_use
          (rows_after_lem e ready.within p g.inside (get_or g.left i no_step) (every_get_d (λ (s : Step). legal e s ≡ true) g.left i no_step m g.lawful)),
    )

    pub planning_done : None ≡ shown_choice (first_of_greatest (gain (kind_of k e) p) l)
        → ◌≡◌ {A = Greedy}
        (record { steps = x; profile = p })
        (record { steps = shown_few no_step (greedy_steps k e); profile = after_all (kind_of k e) (local_profile e) (greedy_steps k e) })
    planning_done f =
        let n : first_of_greatest (gain (kind_of k e) p) g.left ≡ none = choice_none _ None (rw in_use at f) refl in
        let d : greedy_steps k e ≡ g.done = g.same ∙ rw (greedy_none (kind_of k e) g.turns g.left p n) (append-nil g.done) in
        rw (d, g.chosen, g.after)

    module _ (s : Step) (f : Some s ≡ shown_choice (first_of_greatest (gain (kind_of k e) p) l)) where
      first : first_of_greatest (gain (kind_of k e) p) g.left ≡ some s
      first = choice_some _ (Some s) s (rw in_use at f) refl

      member : Memᴰ s g.left
      member = first_mem (gain (kind_of k e) p) (greatest_first (gain (kind_of k e) p) g.left s first)

      shorter : length (without (kind_of k e) s g.left) < length g.left
      shorter = fewer (λ (t : Step). not (same_step s t)) g.left member (same_self (kind_of k e) step_tells s)

      chosen_legal : legal e s ≡ true
      chosen_legal = every_at (λ (t : Step). legal e t ≡ true) g.left g.lawful member

      pub planning_room : x.count < 156
      planning_room = omega (arith, few_count no_step g.done x g.chosen, g.room, shorter)

      pub planning_step : Low p.rows × Low p.counts × (rows_after e p s ≤ 1000000)
      planning_step =
          let b : Bounded k p = planning_ready.0 in
          (b.rows, b.counts, le_trans (rows_after_lem e ready.within p g.inside s chosen_legal) (b.rows s.left.relation))

      module _ (m : List Step) (again : m ≡ take unused.count unused.all) (rest : Few Step)
          (u : rest ≡ shown_few no_step (filter (λ (t : Step). not (same_step s t)) m)) where
        remaining : rest ≡ shown_few no_step (without (kind_of k e) s g.left)
        remaining = u ∙ ap (λ (y : List Step). shown_few no_step (without (kind_of k e) s y)) (again ∙ few_used no_step g.left unused g.held)

        pub planning_less : rest.count < unused.count
        planning_less =
            omega (
              arith,
              few_count no_step (without (kind_of k e) s g.left) rest remaining,
              few_count no_step g.left unused g.held,
              shorter,
            )

        pub planning_more : (q : Profile) → q ≡ after_step e p s → (y : Few Step) → y ≡ record { count = x.count + 1; all = set x.all x.count s }
            → Planning k e rest q y
        planning_more q r y w =
            record {
              left = without (kind_of k e) s g.left;
              held = remaining;
              lawful = every_filter (λ (t : Step). legal e t ≡ true) (λ (t : Step). not (same_step s t)) g.left g.lawful;
              turns = g.turns - 1;
              enough = omega (arith, shorter, g.enough);
              done = g.done ++ (s ∷ []);
              chosen = few_push no_step g.done x g.chosen s (omega (arith, shorter, g.room)) y w;
              room = omega (arith, shorter, g.room, length-append g.done (s ∷ []));
              inside = rw r (step_inside e ready.within p g.inside s chosen_legal);
              after = after_more (kind_of k e) (local_profile e) g.done s ∙ rw (g.after, r);
              same =
                  g.same
                  ∙ ap (λ (y : List Step). g.done ++ y) (greedy_some (kind_of k e) g.turns g.left p s first (omega (arith, shorter, g.enough)))
                  ∙ rw r (sym (append_snoc g.done s _));
            }
