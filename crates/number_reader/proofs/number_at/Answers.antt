-- `number_reader::number_at` meets its contract: the word that stands there, turned back. Assumes nothing.
use Rattle.number_reader.proofs.Taking.{number_is}
use Rattle.number_reader.proofs.number_at.Goals as goal

pub returns : goal.returns
returns g c =
    let A = c.args in
    number_is _ A.coding A.descending A.row.now A.from (λ i. (c.type_inv.row i).fits) c.requires
    _ _ _ c.low.ensures c.directed.ensures c.decode.ensures
