-- `number_writer::put_float` meets its contract: the word of the folded float's key is stored. Assumes nothing.
use Rattle.number_writer.proofs.Writing.{float_wrote}
use Rattle.number_writer.proofs.put_float.Goals as goal

pub returns : goal.returns
returns g c =
    let A = c.args in
    rw c.SIZE.ensures
    (float_wrote _ A.fold A.descending A.values.now A.from (λ i. (c.shared_slice_known-1.given i).fits) c.requires.from_in_bounds
    _ _ _ _ A.out.now _ A.at c.low.ensures c.folded-value.ensures c.encode-word.ensures c.directed.ensures c.put.ensures)
