-- `station::decode::decode` meets its contract: the list that was read says so, and what `decode_listed` ensures of every such list holds of it.
-- Assumes nothing.

use Rattle.station.proofs.decode.decode.Goals as goal

pub returns : goal.returns
returns c =
    c.decode_listed.ensures _ c.read_list.ensures
