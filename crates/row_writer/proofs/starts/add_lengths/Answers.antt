-- `row_writer::starts::add_lengths` meets its contract: so many cursors have the length of their field added. Assumes nothing.
use native.Mathlib.Omega.{arith}
use Rattle.row_writer.proofs.Summing.{cursors_more, cursors_still}
use Rattle.row_writer.proofs.starts.add_lengths.Goals as goal

pub loop-r-preserved : goal.loop-r-preserved
loop-r-preserved c =
    let i = c.loop-r.invariant in
    cursors_more i _ (omega (arith, i.stays.same)) (omega (arith, cursors_still i, c.variable_length.ensures))
