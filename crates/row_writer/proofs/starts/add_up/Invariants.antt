-- `row_writer::starts::add_up` meets its contract: so many rows have their starts, and the sum of their lengths is the next. Assumes nothing.
use mathlib.Core.Path.{◌≡◌}
use Rattle.row_writer.specs.Starts.{CursorsAt, start_of}
use Rattle.row_writer.proofs.starts.add_up.Given as goal

abbrev pub invariant-loop-r : goal.invariant-loop-r
invariant-loop-r l = (l.at ≡ start_of l.fixed l.initial.offsets l.r) × CursorsAt (start_of l.fixed l.initial.offsets) l.r l.initial.offsets l.offsets
