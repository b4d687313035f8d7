-- `station_read::measure_read` meets its contract: the columns are copied into a list that says so, and what `measure_listed` ensures of every such list
-- holds of it. Assumes nothing.
use Rattle.station_read.proofs.measure_read.Goals as goal

pub returns : goal.returns
returns c = c.measure_listed.ensures _ c.described.ensures
