-- `batch_reader::frames` meets its contract. The loop's invariant: the frames so far, and those of the columns left, make all.
-- Assumes nothing.
use Rattle.format.specs.Sheet.{layout}
use Rattle.format.specs.Cleared.{frame}
use Rattle.batch_reader.proofs.FrameSums.{Sums}
use Rattle.batch_reader.proofs.room.frames.Given as goal

abbrev pub invariant-loop-column : goal.invariant-loop-column
invariant-loop-column l = Sums (λ col. frame (layout col) l.n) l.column-items l.bytes l.column-index
