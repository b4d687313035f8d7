-- `runs::put_byte` meets its contract: what is stored is the byte, turned. Assumes nothing.
use Rattle.runs.proofs.Direction.{stored_byte}
use Rattle.runs.proofs.put_byte.Goals as goal

pub returns : goal.returns
returns c =
    let A = c.args in
    stored_byte A.descending A.byte _ A.out.now A.at c.ranges.byte.fits c.directed.type_inv c.directed.ensures
