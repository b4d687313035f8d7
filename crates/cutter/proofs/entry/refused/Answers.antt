-- `cutter::entry::refused` meets its contract. Assumes nothing.
use Rattle.cutter.proofs.entry.refused.Goals as goal

pub returns : goal.returns
returns c = rw c.no_columns-columns.ensures
