-- The laws that the code of candidates goes by: the legal steps are those of 4,096 numbered steps that are legal, in the
-- order of their numbers; and what each return answers.
use mathlib.Core.Path.{◌≡◌, sym, ap, ap₂, ◌∙◌}
use mathlib.Core.Bool.{Bool, true, false}
use mathlib.Core.List.{List, [], map, Memᴰ}
use mathlib.Core.Logic.{inl, inr}
use Prim.Native.Nat.{ℕ, ◌+◌, ◌*◌, ◌/◌, ◌%◌, ◌≤◌, ◌<◌}
use native.Mathlib.Omega.{arith}
use lib.ListN.{length, get_or, set, replicate, length-map}
use Rattle.ground.specs.Lists.{filter, below}
use Rattle.ground.proofs.CountLaws.{split}
use Rattle.ground.proofs.ListLaws.{filter_mem, filter_from, map_mem, get_d_map}
use Rattle.ground.proofs.NumbersLaws.{below_length, below_get_d, below_mem}
use Rattle.ground.proofs.OrderLaws.{numbers_ordered, ordered_filter, ordered_map}
use Rattle.entries.specs.Places.{place}
use Rattle.envelopes.specs.Rules.{Within}
use Rattle.entries.specs.declared.places.Place.{Place}
use Rattle.contents.specs.declared.envelope.Envelope.{Envelope}
use Rattle.paths.specs.Labels.{labels_of, by_labels}
use Rattle.paths.specs.Steps.{step, legal_by, legal, LegalStep, legal_steps, PlaceBefore, StepBefore}
use Rattle.papers.specs.Programs.{no_step}
use Rattle.paths.specs.declared.labels.Labels.{Labels}
use Rattle.paths.specs.declared.steps.Step.{Step}
use Rattle.paths.proofs.LabelLaws.{place_node}
use Rattle.paths.proofs.StepLaws.{legal_step, legal_by_labels, legal_member, legal_ordered}
use Rattle.paths.proofs.StepCountLaws.{legal_few}
use Rattle.planner.specs.Few.{shown_few}
use Rattle.planner.specs.declared.few.Few.{Few}
use Rattle.planner.proofs.FewLaws.{few_empty, few_of}
use Rattle.ground.proofs.OrderedLaws.{ordered_same}
use Rattle.ground.proofs.SiftingLaws.{Sifting, sifting_start, sifting_room, sifting_yes, sifting_no, sifting_done}

-- ---- the numbered steps

abbrev pub numbered_place : ℕ → Place
numbered_place k = place (k / 8) (k % 8)

abbrev pub numbered_step : ℕ → Step
numbered_step k = step (numbered_place (k / 64)) (numbered_place (k % 64))

pub numbered_is : (k : ℕ) (a b : Place) → a ≡ numbered_place (k / 64) → b ≡ numbered_place (k % 64)
    → ◌≡◌ {A = Step} (record { left = a; right = b }) (numbered_step k)
numbered_is k a b f g = ap₂ step f g

abbrev numbered_steps : List Step
numbered_steps = map numbered_step (below 4096)

place_rises : (j k : ℕ) → j < k → PlaceBefore (numbered_place j) (numbered_place k)
place_rises j k h = split (k / 8) (j / 8) (λ l. inr (omega arith, omega arith)) (λ l. inl l)

step_rises : (j k : ℕ) → j < k → StepBefore (numbered_step j) (numbered_step k)
step_rises j k h =
    split (k / 64) (j / 64)
    (λ l. let e : j / 64 ≡ k / 64 = omega arith in inr (ap numbered_place e, place_rises (j % 64) (k % 64) (omega arith)))
    (λ l. inl (place_rises (j / 64) (k / 64) l))

place_one_way : (a b : Place) → PlaceBefore a b → PlaceBefore b a → ⊥
place_one_way a b (inl h) (inl k) = omega arith
place_one_way a b (inl h) (inr (e, k)) = omega arith
place_one_way a b (inr (e, h)) (inl k) = omega arith
place_one_way a b (inr (e, h)) (inr (f, k)) = omega arith

step_one_way : (s t : Step) → StepBefore s t → StepBefore t s → ⊥
step_one_way s t (inl h) (inl k) = place_one_way s.left t.left h k
step_one_way s t (inl h) (inr (e, k)) = place_one_way s.left s.left (rw e at h) (rw e at h)
step_one_way s t (inr (e, h)) (inl k) = place_one_way t.left t.left (rw e at k) (rw e at k)
step_one_way s t (inr (e, h)) (inr (f, k)) = place_one_way s.right t.right h k

-- each column that an envelope can have has a number, and so each step
place_numbered : (a : Place) → a.column < 8 → a ≡ numbered_place (8 * a.relation + a.column)
place_numbered a h =
    let u : a.relation ≡ (8 * a.relation + a.column) / 8 = omega arith in
    let v : a.column ≡ (8 * a.relation + a.column) % 8 = omega arith in
    ap₂ place u v

step_numbered : (e : Envelope) (s : Step) → legal e s ≡ true → Memᴰ s numbered_steps
step_numbered e s t =
    let l : LegalStep e s = legal_step e s t in
    let (a, b) = place_node e s.left l.left in
    let (c, d) = place_node e s.right l.right in
    let i : ℕ = 8 * s.left.relation + s.left.column in
    let j : ℕ = 8 * s.right.relation + s.right.column in
    let u : i ≡ (64 * i + j) / 64 = omega arith in
    let v : j ≡ (64 * i + j) % 64 = omega arith in
    let same : s ≡ numbered_step (64 * i + j) =
    ap₂ step (place_numbered s.left b ∙ ap numbered_place u) (place_numbered s.right d ∙ ap numbered_place v) in
    rw same (map_mem numbered_step (below_mem (64 * i + j) 4096 (omega arith)))

module _ (e : Envelope) where
  pub legal_numbered : filter (legal e) numbered_steps ≡ legal_steps e
  legal_numbered =
      ordered_same StepBefore step_one_way (filter (legal e) numbered_steps) (legal_steps e)
      (ordered_filter StepBefore (legal e) numbered_steps (ordered_map ◌<◌ StepBefore numbered_step step_rises (below 4096) (numbers_ordered 0 4096)))
      (legal_ordered e)
      (λ s m. (legal_member e s).0 (filter_from (legal e) numbered_steps m).1)
      (λ s m. let t : legal e s ≡ true = (legal_member e s).1 m in filter_mem (legal e) (step_numbered e s t) t)

-- ---- the loop over the numbered steps

numbered_length : length numbered_steps ≡ 4096
numbered_length = length-map (below 4096) numbered_step ∙ below_length 4096

numbered_at : (k : ℕ) → k < 4096 → get_or numbered_steps k no_step ≡ numbered_step k
numbered_at k h = get_d_map numbered_step (below 4096) k 0 no_step (omega (arith, below_length 4096)) ∙ ap numbered_step (below_get_d 4096 k 0 h)

abbrev pub Listing : Envelope → ℕ → Few Step → Type 0
Listing e k x = Sifting 156 no_step (legal e) numbered_steps k x.count x.all

module _ (e : Envelope) (w : Within e) where
  pub listing_start : (z : Step) → z ≡ no_step → (x : Few Step) → x ≡ shown_few z [] → Listing e 0 x
  listing_start z f x g =
      let h : x ≡ record { count = 0; all = replicate 156 no_step } = g ∙ ap (λ (s : Step). shown_few s []) f ∙ sym (few_empty no_step) in
      rw h (sifting_start 156 no_step (legal e) numbered_steps (rw (legal_numbered e) (legal_few e w)))

  module _ (k : ℕ) (x : Few Step) (g : Listing e k x) (h : k < 4096) (l : Labels) (u : l ≡ record { of = labels_of e })
      (s : Step) (v : s ≡ numbered_step k) (b : Bool) (f : b ≡ legal_by (by_labels l.of e) e s) where
    inside : k < length numbered_steps
    inside = omega (arith, numbered_length)

    at : get_or numbered_steps k no_step ≡ s
    at = numbered_at k h ∙ sym v

    told : b ≡ legal e (get_or numbered_steps k no_step)
    told = f ∙ ap (λ (x : Labels). legal_by (by_labels x.of e) e s) u ∙ legal_by_labels e w s ∙ ap (legal e) (sym at)

    pub listing_room : b ≡ true → x.count < 156
    listing_room t = sifting_room 156 no_step (legal e) numbered_steps k x.count x.all g no_step inside (sym told ∙ t)

    pub listing_yes : b ≡ true → (y : Few Step) → y ≡ record { count = x.count + 1; all = set x.all x.count s } → Listing e (k + 1) y
    listing_yes t y i = rw i (rw at at (sifting_yes 156 no_step (legal e) numbered_steps k x.count x.all g no_step inside (sym told ∙ t)))

    pub listing_no : b ≡ false → (y : Few Step) → y ≡ x → Listing e (k + 1) y
    listing_no t y i = rw i (sifting_no 156 no_step (legal e) numbered_steps k x.count x.all g no_step inside (sym told ∙ t))

  pub listing_done : (k : ℕ) (x : Few Step) → Listing e k x → 4096 ≤ k → x ≡ shown_few no_step (legal_steps e)
  listing_done k x g h =
      few_of no_step (legal_steps e) x
      (rw (legal_numbered e) at (sifting_done 156 no_step (legal e) numbered_steps k x.count x.all g (omega (arith, numbered_length))))
