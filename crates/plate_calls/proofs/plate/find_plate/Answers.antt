-- `plate_calls::plate::find_plate` meets its contract: the theorem on what the entry answers. Assumes nothing.
use Rattle.format.specs.Described.{spelled}
use Rattle.basics.proofs.Bytes.{bytes_of}
use Rattle.plates.proofs.FoundRows.{looked_up}
use Rattle.plate_calls.proofs.plate.find_plate.Goals as goal

pub returns : goal.returns
returns c =
    let a = c.args in
    looked_up (spelled a.list.now) a.k a.key.now a.n a.rows.now a.offsets.now _
    (bytes_of a.key.now (λ i. (c.type_inv.key i).fits))
    (bytes_of a.rows.now (λ i. (c.type_inv.rows i).fits))
    c.look_up.ensures
