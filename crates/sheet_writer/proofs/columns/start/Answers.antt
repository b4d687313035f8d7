-- `sheet_writer::columns::start` meets its contract: a turn stores the offset of one row more. Assumes nothing.
use mathlib.Core.Path.{sym}
use native.Mathlib.Omega.{arith}
use lib.ListN.{length}
use lib.Seq.{get_or-take}
use Rattle.cursors.proofs.Moving.{fill_more}
use Rattle.sheet_writer.proofs.columns.start.Goals as goal

pub loop-r-preserved : goal.loop-r-preserved
loop-r-preserved c =
    let a = c.args in
    let l = c.loop-r in
    fill_more l.invariant (omega arith) _ (sym (get_or-take (length a.cursors.now) a.offsets.now l.r 0 (omega arith)))
