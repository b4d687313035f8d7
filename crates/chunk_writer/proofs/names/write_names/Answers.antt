-- `chunk_writer::names::write_names` meets its contract: each field is written at its row's cursor. Assumes nothing.
use native.Mathlib.Omega.{arith}
use Rattle.format.specs.Sheet.{layout, packed}
use Rattle.laws.proofs.Parts.{part_rest}
use Rattle.sheet_slots.proofs.Values.{values_pass, variable_asked}
use Rattle.chunk_writer.proofs.NameFields.{name_wrote}
use Rattle.chunk_writer.proofs.Placing.{placing_more}
use Rattle.chunk_writer.proofs.names.write_names.Goals as goal

pub put_name-requires-clause-ended : goal.put_name-requires-clause-ended
put_name-requires-clause-ended c =
    let A = c.args in
    rw (c.packed-valid.ensures.0, part_rest A.part.now (packed A.n))
    (variable_asked {kind = A.column.kind} A.n c.loop-r.r _ (omega arith) (values_pass (layout A.column) A.n A.part.now c.requires.passes)
    c.requires.kind_value)

pub loop-r-preserved : goal.loop-r-preserved
loop-r-preserved c =
    let A = c.args in
    placing_more c.loop-r.invariant (omega arith) (omega (arith, c.loop-r.invariant.moved.same)) _ _
    (name_wrote A.column c.requires.kind_value A.n A.part.now c.loop-r.r _ _
    c.has_value-bit.ensures c.packed-valid.ensures.0 c.put_name.ensures)
