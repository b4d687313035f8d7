-- `offsets::check_offsets` meets its contract. The loop's invariant: the offsets from `i` on fall where all of them do.
-- Assumes nothing.
use Rattle.offsets.proofs.Falls.{Falls}
use Rattle.offsets.proofs.check_offsets.Given as goal

abbrev pub invariant-loop-i : goal.invariant-loop-i
invariant-loop-i l = Falls l.n l.offsets l.i
