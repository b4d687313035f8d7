-- `station_read::encode_read` meets its contract: the columns are copied into a list that says so, and what `encode_listed` ensures of every such list
-- holds of it. Assumes nothing.
use Rattle.station_read.proofs.encode_read.Goals as goal

pub returns : goal.returns
returns c = c.encode_listed.ensures _ c.described.ensures
