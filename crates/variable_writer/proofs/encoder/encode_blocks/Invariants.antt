-- `variable_writer::encoder::encode_blocks` meets its contract: each turn writes a full block. Assumes nothing.
use Prim.Native.Nat.{◌-◌}
use lib.ListN.{length, drop}
use Rattle.variable_writer.specs.Even.{even_blocks}
use Rattle.variable_writer.proofs.Writing.{Spreading}
use Rattle.variable_writer.proofs.encoder.encode_blocks.Given as goal

abbrev pub invariant-loop-i : goal.invariant-loop-i
invariant-loop-i l =
    Spreading (λ _. l.size) (even_blocks l.size (drop l.from l.val)) l.val l.descending l.initial.out l.at l.out l.place 0 l.i

abbrev pub decreases-loop-i : goal.decreases-loop-i
decreases-loop-i l = length l.val - l.i
