-- `variable_writer::encoder::encode_data` meets its contract: each turn writes one of the first blocks. Assumes nothing.
use Prim.Native.Nat.{◌+◌, ◌*◌}
use lib.ListN.{drop}
use Rattle.format.specs.Field.{block_size}
use Rattle.variable_writer.specs.Even.{data_blocks}
use Rattle.variable_writer.proofs.Writing.{Spreading}
use Rattle.variable_writer.proofs.encoder.encode_data.Given as goal

abbrev pub invariant-loop-k : goal.invariant-loop-k
invariant-loop-k l =
    Spreading block_size (data_blocks (drop l.from l.val)) l.val l.descending l.initial.out l.at l.out (l.at + l.k * 9) l.k (l.from + l.k * 8)
