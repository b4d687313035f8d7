-- `row_writer::chunks::write_chunks` meets its contract. Inner loop: so many columns of the chunk's rows are written. Outer loop: so many
-- rows. Assumes nothing.
use Prim.Native.Nat.{min}
use lib.ListN.{length}
use Rattle.row_writer.specs.Rows.{field_at, row_at}
use Rattle.row_writer.proofs.Chunk.{Chunk, Chunks}
use Rattle.row_writer.proofs.chunks.write_chunks.Given as goal

abbrev pub invariant-loop-f : goal.invariant-loop-f
invariant-loop-f l =
    Chunk (field_at l.n l.sheet l.facts) (length l.facts) l.from l.to l.initial.rows l.initial.offsets l.rows l.offsets l.f-index

abbrev pub invariant-loop-from : goal.invariant-loop-from
invariant-loop-from l = Chunks (row_at l.n l.sheet l.facts) l.n l.initial.rows l.initial.offsets l.rows l.offsets (min l.from l.n)
