-- `cutter_bytes::parts::walk_parts` meets its contract. The invariant: so many bytes are walked, and the ends in them stored. The measure is
-- the bytes left. Assumes nothing.
use Prim.Native.Nat.{◌-◌, ◌≤◌}
use lib.ListN.{length}
use Rattle.cutter_step.specs.Places.{state_at}
use Rattle.cutter_bytes.proofs.Parting.{Stored}
use Rattle.cutter_bytes.proofs.parts.walk_parts.Given as goal

abbrev pub invariant-loop-i : goal.invariant-loop-i
invariant-loop-i l = record {
  within : l.i ≤ length l.piece;
  stored : Stored l.schema l.fn.place l.piece l.initial.ends l.i (state_at l.schema l.at) l.n l.ends;
}

abbrev pub decreases-loop-i : goal.decreases-loop-i
decreases-loop-i l = length l.piece - l.i
