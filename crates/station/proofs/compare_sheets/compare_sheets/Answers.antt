-- `station::compare_sheets::compare_sheets` meets its contract: the list that was read says so, and what `compare_sheets_listed` ensures of
-- every such list holds of it. Assumes nothing.

use Rattle.station.proofs.compare_sheets.compare_sheets.Goals as goal

pub returns : goal.returns
returns c = c.compare_sheets_listed.ensures _ c.read_list.ensures
