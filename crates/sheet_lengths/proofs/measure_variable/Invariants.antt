-- `sheet_lengths::measure_variable` meets its contract. The invariant: the fields of the rows so far are added up.
-- Assumes nothing.
use Rattle.basics.proofs.Lists.{Adding}
use Rattle.sheet_lengths.specs.Measures.{variable_length}
use Rattle.sheet_lengths.proofs.measure_variable.Given as goal

abbrev pub invariant-loop-row : goal.invariant-loop-row
invariant-loop-row l = Adding (variable_length l.n l.part) l.n l.row l.total
