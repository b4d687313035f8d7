-- `number_writer::put_number` meets its contract: the word of the key is stored. Assumes nothing.
use Rattle.number.specs.Codings.{coding_key}
use Rattle.number_writer.proofs.Writing.{number_wrote}
use Rattle.number_writer.proofs.put_number.Goals as goal

pub returns : goal.returns
returns g c =
    let A = c.args in
    rw c.SIZE.ensures
    (number_wrote _ (coding_key A.coding) A.descending A.values.now A.from (λ i. (c.shared_slice_known-1.given i).fits) c.requires.from_in_bounds
    _ _ _ A.out.now _ A.at c.low.ensures c.encode-word.ensures c.directed.ensures c.put.ensures)
