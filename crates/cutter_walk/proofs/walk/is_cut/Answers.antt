-- `cutter_walk::walk::is_cut` meets its contract. Assumes nothing.
use Rattle.cutter_walk.proofs.Fields.{not_cut}
use Rattle.cutter_walk.proofs.walk.is_cut.Goals as goal

pub returns-in_default : goal.returns-in_default
returns-in_default c = not_cut c.args.fault c.in_default.not-Cut
