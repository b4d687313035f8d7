-- `station::encode::encode` meets its contract: the list that was read says so, and what `encode_listed` ensures of every such list holds of it.
-- Assumes nothing.

use Rattle.station.proofs.encode.encode.Goals as goal

pub returns : goal.returns
returns c =
    c.encode_listed.ensures _ c.read_list.ensures
