-- `lent_bytes::put_answer` meets its contract. Assumes nothing.
use Rattle.lent_bytes.proofs.NumberBytes.{four_stored}
use Rattle.lent_bytes.proofs.put_answer.Goals as goal

pub returns : goal.returns
returns c =
    four_stored c.from-numbers.result _ c.args.lent.now _ _ _ _ c.from-numbers.ensures c.requires
    c.put.ensures c.put-2.ensures c.put-3.ensures c.put-4.ensures
