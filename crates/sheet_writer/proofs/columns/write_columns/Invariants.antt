-- `sheet_writer::columns::write_columns` meets its contract. The invariant: the columns passed are written, their null slots
-- counted, and the cursors stand at the next one's fields. Assumes nothing.
use lib.ListN.{take}
use Rattle.sheet_writer.proofs.Stand.{Standing}
use Rattle.sheet_writer.proofs.columns.write_columns.Given as goal

abbrev pub invariant-loop-c : goal.invariant-loop-c
invariant-loop-c l =
    Standing (take l.schema.count l.schema.columns) l.rows l.initial.cursors l.initial.sheet l.cursors l.sheet l.nulls l.at l.c
