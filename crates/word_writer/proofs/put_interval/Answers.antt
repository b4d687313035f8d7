-- `word_writer::put_interval` meets its contract: the parts are stored one after the other. Assumes nothing.
use Rattle.word_writer.proofs.Keyed.{interval_stored}
use Rattle.word_writer.proofs.put_interval.Goals as goal

pub returns : goal.returns
returns c =
    let A = c.args in
    interval_stored A.descending A.values.now A.from c.requires.from_in_bounds A.rows.now A.at A.valid _ _ _
    c.put_number.ensures c.put_number-2.ensures c.put_number-3.ensures
