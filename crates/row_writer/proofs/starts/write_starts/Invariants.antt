-- `row_writer::starts::write_starts` meets its contract: so many fields of each row are counted. Assumes nothing.
use Rattle.row_writer.specs.Rows.{field_at}
use Rattle.row_writer.proofs.Summing.{Lengths}
use Rattle.row_writer.proofs.starts.write_starts.Given as goal

abbrev pub invariant-loop-f : goal.invariant-loop-f
invariant-loop-f l = Lengths (field_at l.n l.sheet l.facts) l.n l.initial.offsets l.offsets l.fixed l.f-index
