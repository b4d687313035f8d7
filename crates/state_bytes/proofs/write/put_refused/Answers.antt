-- `state_bytes::write::put_refused` meets its contract. Assumes nothing.
use Rattle.state_bytes.proofs.Writing.{refused_put}
use Rattle.state_bytes.proofs.write.put_refused.Goals as goal

pub returns : goal.returns
returns c =
    refused_put c.args.refusal c.args.out.now _ _ c.requires c.put_numbers.ensures c.zeros.ensures
