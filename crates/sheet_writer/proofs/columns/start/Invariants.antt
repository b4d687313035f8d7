-- `sheet_writer::columns::start` meets its contract. The invariant: the cursors of the rows passed are their offsets.
-- Assumes nothing.
use lib.ListN.{length, take}
use Rattle.cursors.proofs.Moving.{Filled}
use Rattle.sheet_writer.proofs.columns.start.Given as goal

abbrev pub invariant-loop-r : goal.invariant-loop-r
invariant-loop-r l = Filled (take (length l.initial.cursors) l.offsets) l.initial.cursors l.cursors l.r
