-- `byte_order::compare_bytes` meets its contract. The loop's invariant: the two are alike so far. Assumes nothing.
use Rattle.byte_order.proofs.Alike.{Alike}
use Rattle.byte_order.proofs.compare_bytes.Given as goal

abbrev pub invariant-loop-i : goal.invariant-loop-i
invariant-loop-i l = Alike l.a l.b l.i
