-- `variable_reader::reader::count_blocks` meets its contract: a law for each way on or out. Assumes nothing.
use Prim.Native.Nat.{◌-◌}
use Rattle.variable_reader.proofs.Counting.{Counting}
use Rattle.variable_reader.proofs.reader.count_blocks.Given as goal

abbrev pub invariant-loop-at : goal.invariant-loop-at
invariant-loop-at l = Counting l.descending l.row l.at l.k l.count

abbrev pub decreases-loop-at : goal.decreases-loop-at
decreases-loop-at l = l.len - l.at
