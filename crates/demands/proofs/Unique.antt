-- "Each public function's contract determines its result, the refusal number and position, and every lent word or byte afterwards,
-- whatever comes in. That two results meeting one contract are equal is proved." Said once of any contract; UniquePapers,
-- UniqueStations and UniqueClosures have it of each public function's own contract, and of each method's of an impl, which is `Learnt` in its
-- module: what the function's `ensures` says of the arguments, the result and the parameters at the exit.
use Prim.Native.Nat.{ℕ}
use mathlib.Core.Path.{◌≡◌}
use mathlib.Core.List.{List, ◌++◌}
use contract.Lifetimes.{Lfts}
use denote.Triple.Clauses.{Lasts, at_exit}
use borrow.Fn.Kinds.{ParamKind, ResultKind, Dens, res_t, Out, ended_of}
use Rattle.std.specs.Fmt.{IsPlainFormatter}
use Rattle.std.specs.declared.fmt.Formatter.{Formatter}
use Rattle.ground.proofs.UniqueLaws.{unique}

-- whatever the arguments: two results that meet the contract are equal, and so is what the two leave in each thing that is lent for writing
abbrev pub Determined : {n : ℕ} (ps : List (ParamKind n)) (r : ResultKind n) → Out n ps r → Type 0
Determined {n} ps r meets =
    (κs : Lfts n) (a : Dens κs ps) (y z : (res_t r κs).Denot) (u v : Lasts (ended_of n ps r) κs a)
    → meets κs a y (at_exit (ended_of n ps r) κs a u) → meets κs a z (at_exit (ended_of n ps r) κs a v) → (y ≡ z) × (u ≡ v)

-- of a slice that is handed out it is what it shows: where that lies is no matter of the contract
abbrev pub Shown : {n : ℕ} (ps : List (ParamKind n)) (r : ResultKind n) → Out n ps r → {X : Lfts n → Type 0} → ((κs : Lfts n) → (res_t r κs).Denot → X κs) → Type 0
Shown {n} ps r meets seen =
    (κs : Lfts n) (a : Dens κs ps) (y z : (res_t r κs).Denot) (u v : Lasts (ended_of n ps r) κs a)
    → meets κs a y (at_exit (ended_of n ps r) κs a u) → meets κs a z (at_exit (ended_of n ps r) κs a v) → (seen κs y ≡ seen κs z) × (u ≡ v)

-- of a function that is handed a closure, where the closure's answers are of some kind
abbrev pub DeterminedWhere : {n : ℕ} (ps : List (ParamKind n)) (r : ResultKind n) → Out n ps r → ((κs : Lfts n) → Dens κs ps → Type 0) → Type 0
DeterminedWhere {n} ps r meets If =
    (κs : Lfts n) (a : Dens κs ps) (y z : (res_t r κs).Denot) (u v : Lasts (ended_of n ps r) κs a) → If κs a
    → meets κs a y (at_exit (ended_of n ps r) κs a u) → meets κs a z (at_exit (ended_of n ps r) κs a v) → (y ≡ z) × (u ≡ v)

-- of a function that prints as `{}` does, where it succeeds, to a writer that holds one text behind another: what it holds then is one text
abbrev pub Printed : {n : ℕ} (ps : List (ParamKind n)) (r : ResultKind n) → Out n ps r → {W : Type 0} → (W → List ℕ → W → Type 0)
    → ((κs : Lfts n) → Dens κs ps → Formatter W) → ((κs : Lfts n) → (res_t r κs).Denot → Type 0)
    → ((κs : Lfts n) (a : Dens κs ps) → Lasts (ended_of n ps r) κs a → Formatter W) → Type 0
Printed {n} ps r meets {W} gives before succeeds after =
    (held : W → List ℕ) → ((w : W) (text : List ℕ) (x : W) → gives w text x → held x ≡ held w ++ text)
    → (κs : Lfts n) (a : Dens κs ps) (y z : (res_t r κs).Denot) (u v : Lasts (ended_of n ps r) κs a)
    → IsPlainFormatter (before κs a) → succeeds κs y → succeeds κs z
    → meets κs a y (at_exit (ended_of n ps r) κs a u) → meets κs a z (at_exit (ended_of n ps r) κs a v)
    → held (after κs a u).writer ≡ held (after κs a v).writer

-- each equation of a contract says what a result or a lent thing is, so that two that meet it are one
pub same : {A : Type 0} {meant a b : A} → a ≡ meant → b ≡ meant → a ≡ b
same {A} {meant} {a} {b} p q = unique meant a b p q
