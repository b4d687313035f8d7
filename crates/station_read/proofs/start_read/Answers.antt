-- `station_read::start_read` meets its contract: the columns are copied into a list that says so, and what `start_listed` ensures of every such list
-- holds of it. Assumes nothing.
use Rattle.station_read.proofs.start_read.Goals as goal

pub returns : goal.returns
returns c = c.start_listed.ensures _ c.described.ensures
