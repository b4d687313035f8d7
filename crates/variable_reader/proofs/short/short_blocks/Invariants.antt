-- `variable_reader::short::short_blocks` meets its contract: the laws of the count walk, in blocks that are all short. Assumes nothing.
use Prim.Native.Nat.{◌+◌, ◌*◌}
use Rattle.variable_reader.proofs.Counting.{Counting}
use Rattle.variable_reader.proofs.short.short_blocks.Given as goal

abbrev pub invariant-loop-k : goal.invariant-loop-k
invariant-loop-k l = Counting l.descending l.row (1 + l.k * 9) l.k (l.k * 8)
