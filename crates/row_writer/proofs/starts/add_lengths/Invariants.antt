-- `row_writer::starts::add_lengths` meets its contract: so many cursors have the length of their field added. Assumes nothing.
use Rattle.row_writer.specs.Starts.{CursorsAt, grown}
use Rattle.row_writer.proofs.starts.add_lengths.Given as goal

abbrev pub invariant-loop-r : goal.invariant-loop-r
invariant-loop-r l = CursorsAt (grown l.n l.part l.initial.offsets) l.r l.initial.offsets l.offsets
