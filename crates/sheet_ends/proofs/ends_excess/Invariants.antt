-- `sheet_ends::ends_excess` meets its contract. The invariant: a sum of 0 says that the rows so far step as they may. Assumes
-- nothing.
use Rattle.sheet_ends.proofs.EndTurns.{Sum}
use Rattle.sheet_ends.proofs.ends_excess.Given as goal

abbrev pub invariant-loop-row : goal.invariant-loop-row
invariant-loop-row l = Sum l.part l.n l.row l.excess
