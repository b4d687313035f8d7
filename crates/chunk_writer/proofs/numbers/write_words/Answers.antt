-- `chunk_writer::numbers::write_words` meets its contract: each field is written at its row's cursor. Assumes nothing.
use native.Mathlib.Omega.{arith}
use Rattle.fixed_decoder.specs.Worded.{worded}
use Rattle.word_writer.proofs.Keyed.{word_wide}
use Rattle.chunk_writer.proofs.Placing.{placing_more}
use Rattle.chunk_writer.proofs.numbers.write_words.Goals as goal

pub loop-r-preserved : goal.loop-r-preserved
loop-r-preserved c =
    let w = c.args.width in
    placing_more c.loop-r.invariant (omega arith) (omega (arith, c.loop-r.invariant.moved.same)) _ _
    (word_wide w (worded c.args.coding w) c.args.column.options c.args.n c.args.part.now c.loop-r.r _ _
    c.has_value-bit.ensures c.packed-valid.ensures.0 c.put_slot.ensures)
