-- `station::look_up::look_up` meets its contract: the list that was read says so, and what `look_up_listed` ensures of every such list holds of
-- it. Assumes nothing.

use Rattle.station.proofs.look_up.look_up.Goals as goal

pub returns : goal.returns
returns c = c.look_up_listed.ensures _ c.read_list.ensures
