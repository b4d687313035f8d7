-- `station::measure::measure` meets its contract: the list that was read says so, and what `measure_listed` ensures of every such list holds of it.
-- Assumes nothing.

use Rattle.station.proofs.measure.measure.Goals as goal

pub returns : goal.returns
returns c =
    c.measure_listed.ensures _ c.read_list.ensures
