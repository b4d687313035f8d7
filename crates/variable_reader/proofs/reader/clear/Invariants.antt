-- `variable_reader::reader::clear` meets its contract: each turn passes a word of zeros. Assumes nothing.
use Prim.Native.Nat.{◌+◌, ◌*◌}
use Rattle.format.specs.Field.{directed}
use Rattle.variable_reader.proofs.Padding.{Clear}
use Rattle.variable_reader.proofs.reader.clear.Given as goal

abbrev pub invariant-loop-k : goal.invariant-loop-k
invariant-loop-k l = Clear (directed l.descending l.row) l.from l.to (l.from + 8 * l.k)
