-- `station_read::look_up_read` meets its contract: the columns are copied into a list that says so, and what `look_up_listed` ensures of every such list
-- holds of it. Assumes nothing.
use Rattle.station_read.proofs.look_up_read.Goals as goal

pub returns : goal.returns
returns c = c.look_up_listed.ensures _ c.described.ensures
