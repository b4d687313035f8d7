-- `station_read::compare_sheets_read` meets its contract: the columns are copied into a list that says so, and what `compare_sheets_listed` ensures of every such list
-- holds of it. Assumes nothing.
use Rattle.station_read.proofs.compare_sheets_read.Goals as goal

pub returns : goal.returns
returns c = c.compare_sheets_listed.ensures _ c.described.ensures
