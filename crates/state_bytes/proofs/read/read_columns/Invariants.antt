-- `state_bytes::read::read_columns` meets its contract. The invariant: so many columns are read. Assumes nothing.
use Rattle.format.specs.Described.{code_at, column_of}
use Rattle.state_bytes.proofs.Reading.{ColumnsRead}
use Rattle.state_bytes.proofs.read.read_columns.Given as goal

abbrev pub invariant-loop-i : goal.invariant-loop-i
invariant-loop-i l = ColumnsRead (λ j. column_of (code_at l.codes j)) l.count l.columns l.i
