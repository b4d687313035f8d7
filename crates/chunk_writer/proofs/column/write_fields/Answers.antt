-- `chunk_writer::column::write_fields` meets its contract: each field is written at its row's cursor. Assumes nothing.
use native.Mathlib.Omega.{arith}
use Rattle.chunk_writer.proofs.Placing.{placing_more}
use Rattle.chunk_writer.proofs.column.write_fields.Goals as goal

pub loop-r-preserved : goal.loop-r-preserved
loop-r-preserved c =
    placing_more c.loop-r.invariant (omega arith) (omega (arith, c.loop-r.invariant.moved.same)) _ _ c.put_field.ensures
