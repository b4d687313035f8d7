-- `cutter_walk::walk::by_bytes` meets its contract: a byte more in each turn. Assumes nothing.
use Rattle.cutter_walk.proofs.Walking.{Turning}
use Rattle.cutter_walk.proofs.walk.by_bytes.Given as goal

abbrev pub invariant-loop-i : goal.invariant-loop-i
invariant-loop-i l = Turning l.fn.schema l.fn.place l.piece l.from l.found l.initial.ends l.at l.n l.i l.ends
