use native.Mathlib.Omega.{arith}
use Rattle.fields.proofs.PutLaws.{head_long, put_head}
use Rattle.fields.proofs.puts.put_head.Goals as goal

pub returns : goal.returns
returns c =
    let s = c.args in (
      head_long s.a s.b s.c s.version,
      put_head s.a s.b s.c s.version s.out.now _ _ _ _ c.put_byte.ensures c.put_byte-2.ensures
          c.put_byte-3.ensures c.put_number.ensures,
      omega arith,
    )
