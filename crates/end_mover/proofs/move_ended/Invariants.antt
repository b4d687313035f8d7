-- `end_mover::move_ended` meets its contract. The invariant: the values of the rows passed are copied, their ends
-- written but for the last, and their cursors moved. Assumes nothing.
use Rattle.end_mover.proofs.OnePass.{Ended}
use Rattle.end_mover.proofs.move_ended.Given as goal

abbrev pub invariant-loop-cursor : goal.invariant-loop-cursor
invariant-loop-cursor l =
    Ended l.options l.rows l.initial.cursors l.initial.sheet l.at l.data l.cursors l.sheet l.end l.total l.cursor-index
