-- `sheet_ends::check_ends` meets its contract: nothing beyond the limit is no fault. Assumes nothing.
use Rattle.std.proofs.Common.{sym}
use Rattle.sheet_ends.proofs.EndTurns.{steps_pass}
use Rattle.sheet_ends.proofs.check_ends.Goals as goal

pub returns-then-ends_excess-eq0 : goal.returns-then-ends_excess-eq0
returns-then-ends_excess-eq0 c =
    sym (steps_pass _ _ _ (c.ends_excess.ensures c.if-ends_excess-eq0.true))
