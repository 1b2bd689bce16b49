use Rattle.fields.proofs.PartLaws.{Landing}
use Rattle.fields.proofs.puts.put_all.Given as goal

abbrev pub invariant-loop-part : goal.invariant-loop-part
invariant-loop-part g l = Landing g.P.Part.bytes g.P.Part.most l.parts l.initial.out l.at l.part-index l.end l.out
