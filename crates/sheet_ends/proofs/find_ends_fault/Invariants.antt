-- `sheet_ends::find_ends_fault` meets its contract. The invariant: the rows so far pass, and the last end is known. Assumes nothing.
use Rattle.sheet_ends.proofs.EndTurns.{Turn}
use Rattle.sheet_ends.proofs.find_ends_fault.Given as goal

abbrev pub invariant-loop-row : goal.invariant-loop-row
invariant-loop-row l = Turn l.c l.part l.n l.row l.last
