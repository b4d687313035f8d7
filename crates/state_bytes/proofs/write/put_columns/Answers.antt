-- `state_bytes::write::put_columns` meets its contract. Assumes nothing.
use Rattle.state_bytes.proofs.Writing.{columns_put}
use Rattle.state_bytes.proofs.write.put_columns.Goals as goal

pub returns : goal.returns
returns c =
    columns_put c.args.schema c.well_formed.1.0 c.requires.count_le_max_columns c.args.out.now _ _ c.requires.max_columns_in_bounds c.put_codes.ensures
    c.zeros.ensures
