-- `state_bytes::write::put_four` meets its contract. Assumes nothing.
use Rattle.state_bytes.proofs.Writing.{four_put}
use Rattle.state_bytes.proofs.write.put_four.Goals as goal

pub returns : goal.returns
returns c =
    four_put c.args.numbers c.args.at c.args.out.now _ _ _ _ c.put.ensures c.put-2.ensures
    c.put-3.ensures c.put-4.ensures
