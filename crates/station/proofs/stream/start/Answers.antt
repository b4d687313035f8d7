-- `station::stream::start` meets its contract: the list that was read says so, and what `start_listed` ensures of every such list holds of it.
-- Assumes nothing.

use Rattle.station.proofs.stream.start.Goals as goal

pub returns : goal.returns
returns c = c.start_listed.ensures _ c.read_list.ensures
