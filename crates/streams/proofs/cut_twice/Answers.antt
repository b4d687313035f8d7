-- `streams::cut_twice` meets its contract: three calls, and what each promises. Assumes nothing.
use Rattle.basics.proofs.Bytes.{bytes_of}
use Rattle.streams.proofs.Anywhere.{cut_twice}
use Rattle.streams.proofs.cut_twice.Goals as goal

pub returns : goal.returns
returns c =
    let a = c.args in
    let schema = c.well_formed.0.1.1.0 in
    let columns = schema.1.1.0.1 in
    cut_twice a.state columns.0.1 a.piece.now (bytes_of a.piece.now (λ i. (c.type_inv.piece i).fits)) a.at _
    c.place_in-place.ensures.0 _ _ _ _ c.cut-whole.ensures c.cut-front.ensures c.cut-rest.ensures
