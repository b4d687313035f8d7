-- `variable_writer::encoder::encode_last` meets its contract: the first word, and in each turn one more, of data and padding. Assumes nothing.
use Prim.Native.Nat.{◌-◌, ◌*◌}
use lib.ListN.{length, drop}
use Rattle.variable_writer.proofs.Writing.{Filling}
use Rattle.variable_writer.proofs.encoder.encode_last.Given as goal

abbrev pub invariant-loop-k : goal.invariant-loop-k
invariant-loop-k l = Filling (drop l.from l.val) l.size (length l.val - l.from) l.descending 8 l.initial.out l.at l.out (8 * l.k)
