-- `chunk_writer::column::write_fields` meets its contract: each field is written at its row's cursor. Assumes nothing.
use Rattle.chunk_writer.specs.Cursors.{slot_field}
use Rattle.chunk_writer.proofs.Placing.{Placing}
use Rattle.chunk_writer.proofs.column.write_fields.Given as goal

abbrev pub invariant-loop-r : goal.invariant-loop-r
invariant-loop-r l = Placing (slot_field l.column l.n l.part) l.from l.to l.initial.rows l.initial.offsets l.rows l.offsets l.r
