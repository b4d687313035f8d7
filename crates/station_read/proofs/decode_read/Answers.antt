-- `station_read::decode_read` meets its contract: the columns are copied into a list that says so, and what `decode_listed` ensures of every such list
-- holds of it. Assumes nothing.
use Rattle.station_read.proofs.decode_read.Goals as goal

pub returns : goal.returns
returns c = c.decode_listed.ensures _ c.described.ensures
