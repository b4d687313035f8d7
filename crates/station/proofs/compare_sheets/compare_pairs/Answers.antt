-- `station::compare_sheets::compare_pairs` meets its contract: the list that was read says so, and what `compare_numbers_listed` ensures of
-- every such list holds of it. Assumes nothing.

use Rattle.station.proofs.compare_sheets.compare_pairs.Goals as goal

pub returns : goal.returns
returns c =
    c.compare_numbers_listed.ensures _ c.read_list.ensures
