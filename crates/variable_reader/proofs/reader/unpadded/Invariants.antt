-- `variable_reader::reader::unpadded` meets its contract: each turn passes a zero. Assumes nothing.
use Rattle.format.specs.Field.{directed}
use Rattle.variable_reader.proofs.Padding.{Clear}
use Rattle.variable_reader.proofs.reader.unpadded.Given as goal

abbrev pub invariant-loop-i : goal.invariant-loop-i
invariant-loop-i l = Clear (directed l.descending l.row) l.from l.to l.i
