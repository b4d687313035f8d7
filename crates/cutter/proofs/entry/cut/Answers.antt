-- `cutter::entry::cut` meets its contract: what was counted, with the columns. Assumes nothing.
use Rattle.cutter.proofs.Entering.{cut_left}
use Rattle.cutter.proofs.entry.cut.Goals as goal

pub returns : goal.returns
returns c = cut_left _ c.cut_counted-counted.ensures c.state_left-last.ensures
