-- `state_bytes::write::put_numbers` meets its contract. Assumes nothing.
use Rattle.state_bytes.proofs.Writing.{numbers_put}
use Rattle.state_bytes.proofs.write.put_numbers.Goals as goal

pub returns : goal.returns
returns c =
    let a = c.args in
    numbers_put a.check a.place a.count _ _ a.out.now _ _ _ _ c.requires c.from.ensures c.spot_numbers.ensures
    c.put_four.ensures c.put_four-2.ensures c.put_four-3.ensures c.put.ensures
