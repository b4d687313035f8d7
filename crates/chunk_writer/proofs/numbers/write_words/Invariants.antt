-- `chunk_writer::numbers::write_words` meets its contract: each field is written at its row's cursor. Assumes nothing.
use Rattle.fixed_decoder.specs.Worded.{worded}
use Rattle.word_writer.specs.Words.{wide_field}
use Rattle.chunk_writer.proofs.Placing.{Placing}
use Rattle.chunk_writer.proofs.numbers.write_words.Given as goal

abbrev pub invariant-loop-r : goal.invariant-loop-r
invariant-loop-r l =
    Placing (wide_field l.width (worded l.coding l.width) l.column.options l.n l.part) l.from l.to l.initial.rows l.initial.offsets l.rows l.offsets l.r
