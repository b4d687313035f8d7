-- `byte_order::compare` meets its contract. The loop's invariant: the two are alike so far. The measure is what is left before the last
-- word. Assumes nothing.
use Prim.Native.Nat.{◌-◌}
use Rattle.byte_order.proofs.Alike.{Alike}
use Rattle.byte_order.proofs.compare.Given as goal

abbrev pub invariant-loop-i : goal.invariant-loop-i
invariant-loop-i l = Alike l.a l.b l.i

abbrev pub decreases-loop-i : goal.decreases-loop-i
decreases-loop-i l = l.last - l.i
