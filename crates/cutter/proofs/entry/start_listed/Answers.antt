-- `cutter::entry::start_listed` meets its contract: as the list was read. Assumes nothing.
use Rattle.cutter.proofs.Entering.{start_refused, start_begun}
use Rattle.cutter.proofs.entry.start_listed.Goals as goal

pub returns-in-Ok : goal.returns-in-Ok
returns-in-Ok c = λ list is. start_begun list _ is _ _ c.in-Ok.is c.state_at.ensures

pub returns-in-Err : goal.returns-in-Err
returns-in-Err c = λ list is. start_refused list _ is _ _ c.in-Err.is c.refused.ensures
