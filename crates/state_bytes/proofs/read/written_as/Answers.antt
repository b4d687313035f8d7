-- `state_bytes::read::written_as` meets its contract: written anew, and compared. Assumes nothing.
use Rattle.state_bytes.proofs.Writing.{length_columns, written_same}
use Rattle.state_bytes.proofs.read.written_as.Goals as goal

pub returns : goal.returns
returns c =
    let a = c.args in
    written_same a.check a.place a.schema (length_columns a.schema c.well_formed.1.1.1.0 c.requires.count_le_max_columns) _ _ c.put_state.ensures _
    c.same_bytes.ensures
