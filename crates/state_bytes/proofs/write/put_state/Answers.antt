-- `state_bytes::write::put_state` meets its contract. Assumes nothing.
use Rattle.state_bytes.proofs.Writing.{length_columns, state_put}
use Rattle.state_bytes.proofs.write.put_state.Goals as goal

pub returns : goal.returns
returns c =
    let a = c.args in
    state_put a.check a.place a.schema a.out.now _ c.requires.state_size_in_bounds c.put_numbers.ensures
    (length_columns a.schema c.well_formed.1.1.1.0 c.requires.count_le_max_columns) _ c.put_columns.ensures
