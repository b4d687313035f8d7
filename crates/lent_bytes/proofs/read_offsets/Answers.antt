use native.Mathlib.Omega.{arith}
use Rattle.lent_bytes.proofs.NumberBytes.{filled_more, filled_end}
use Rattle.lent_bytes.proofs.read_offsets.Goals as goal

pub loop-i-preserved : goal.loop-i-preserved
loop-i-preserved c =
    filled_more c.args.offsets.now c.loop-i.numbers _ _ c.loop-i.invariant (omega arith) c.low.ensures

pub returns : goal.returns
returns c =
    filled_end c.args.offsets.now _ _ _ c.loop-i.invariant (omega arith) (omega arith)
