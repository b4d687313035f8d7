-- `variable_reader::copier::copy_blocks` meets its contract: each turn copies a block's data. Assumes nothing.
use Prim.Native.Nat.{◌-◌}
use lib.ListN.{length}
use Rattle.variable_reader.proofs.Taking.{Taking}
use Rattle.variable_reader.proofs.copier.copy_blocks.Given as goal

abbrev pub invariant-loop-used : goal.invariant-loop-used
invariant-loop-used l = Taking l.descending l.row l.initial.out l.at l.out l.from l.k l.count

abbrev pub decreases-loop-used : goal.decreases-loop-used
decreases-loop-used l = length l.row - l.from
