-- `word_writer::put_slot` meets its contract: a lead byte, and the words of the value or those of 0. Assumes nothing.
use Prim.Native.Nat.{◌*◌}
use Rattle.word_writer.proofs.Keyed.{interval_slot, word_slot}
use Rattle.word_writer.proofs.put_slot.Goals as goal

pub returns-then-width-eq16 : goal.returns-then-width-eq16
returns-then-width-eq16 c =
    let A = c.args in
    interval_slot A.coding A.width A.options A.values.now (A.r * A.width) c.requires.width_in_bounds A.valid _ c.lead.ensures
    A.rows.now _ A.at c.if-width-eq16.true c.put_interval.ensures

pub returns : goal.returns
returns c =
    let A = c.args in
    word_slot A.coding A.width A.options A.values.now (A.r * A.width) c.requires.width_in_bounds A.valid _ c.lead.ensures
    A.rows.now _ A.at A.fold c.requires.fold_value c.if-width-eq16.false c.put_word.ensures
