use native.Mathlib.Omega.{arith}
use Rattle.fields.proofs.PartLaws.{then_anywhere}
use Rattle.entries.specs.Places.{place_bytes}
use Rattle.entries.proofs.places.PlacePart.put.Goals as goal

pub returns : goal.returns
unfolding place_bytes
returns c = then_anywhere _ _ _ _ 1 _ c.put-next.ensures _ _ 1 _ c.put.ensures (omega arith)
