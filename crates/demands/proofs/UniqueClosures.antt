-- Of each public function that is handed a closure, parts of any kind or a writer of any kind: where the closure reads as a definition does, and
-- the writer holds one text behind another, its contract determines it.
use Rattle.ground.proofs.refusals
use Rattle.fields.proofs.lists
use Rattle.fields.proofs.puts
use Rattle.fields.specs.contracts.lists.read_list
use Rattle.fields.specs.contracts.lists.read_many
use Rattle.fields.specs.Lists.{ReadsBy}
use Rattle.fields.specs.declared.puts.Part
use Rattle.std.specs.Prelude.{IsOk}
use Rattle.std.specs.declared.clone.Clone
use Rattle.std.specs.declared.fmt.Write
use Rattle.std.proofs.lemmas.Fmt.{contents_after_writes}
use mathlib.Core.Path.{refl}
use Prim.Native.Nat.{ℕ}
use denote.RattleType.{RattleType}
use denote.Param.{number}
use denote.Param.Laws.{Laws, IsCopy}
use mir.Val.{Fits}
use mir.Syntax.{w64, Dict}
use Rattle.ground.specs.Outcome.{Outcome}
use Rattle.demands.proofs.Unique.{Determined, DeterminedWhere, Printed, same}

module _ (T : RattleType) (N : ℕ) (F : RattleType) (t : Laws T) (n : Fits w64 N) (f : Laws F) (c : IsCopy T) (g : Clone.Ghosts T.Denot) (d e i j k : Dict)
    (item : ℕ → Outcome T.Denot) where
  pub read_many_one : (h : read_many.F-Fn.Ghosts T (number N) F) → DeterminedWhere (lists.read_many.Kinds.ps T N F t n f c) (lists.read_many.Kinds.r T N F t n f c) (lists.read_many.Reads.Learnt T N F t n f c g d h e i j k) (λ κs a. ReadsBy (read_many.F-post T (number N) F g d h d d d d a.1.1.1.0) item)
  read_many_one h κs a y z u v reads p q = (same (p item reads) (q item reads), refl)

  pub read_list_one : (h : read_list.F-Fn.Ghosts T (number N) F) → DeterminedWhere (lists.read_list.Kinds.ps T N F t n f c) (lists.read_list.Kinds.r T N F t n f c) (lists.read_list.Reads.Learnt T N F t n f c g d h e i j k) (λ κs a. ReadsBy (read_list.F-post T (number N) F g d h d d d d a.1.1.1.1.0) item)
  read_list_one h κs a y z u v reads p q = (same (p item reads) (q item reads), refl)

module _ (T : RattleType) (t : Laws T) (c : IsCopy T) (g : Part.Ghosts T.Denot) (d : Dict) (h : Clone.Ghosts T.Denot) where
  pub put_all_one : (e : Dict) → Determined (puts.put_all.Kinds.ps T t c) (puts.put_all.Kinds.r T t c) (puts.put_all.Reads.Learnt T t c g d h e)
  put_all_one e κs a y z u v p q = (same p.0 q.0, λ i. (same p.1.1 q.1.1 i, (tt, (tt, tt))))

  pub put_list_one : (e : Dict) → Determined (puts.put_list.Kinds.ps T t c) (puts.put_list.Kinds.r T t c) (puts.put_list.Reads.Learnt T t c g d h e)
  put_list_one e κs a y z u v p q = (same p.0 q.0, λ i. (same p.1.1 q.1.1 i, (tt, (tt, (tt, tt)))))

module _ (W : RattleType) (l : Laws W) (g : Write.Ghosts W.Denot) where
  pub fmt_one : (d : Dict) → Printed (refusals.RefusalDisplay.fmt.Kinds.ps W l) (refusals.RefusalDisplay.fmt.Kinds.r W l) (refusals.RefusalDisplay.fmt.Reads.Learnt W l g d) g.write_str_gives (λ κs a. a.1.0.now) (λ κs y. IsOk y) (λ κs a u. u.1.0)
  fmt_one d held adds κs a y z u v plain first second p q =
      same (contents_after_writes g.write_str_gives held adds _ _ _ (p.0 plain first).wrote)
      (contents_after_writes g.write_str_gives held adds _ _ _ (q.0 plain second).wrote)
