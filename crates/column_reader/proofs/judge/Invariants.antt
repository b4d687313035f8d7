-- `column_reader::judge` meets its contract. The invariant: so many columns are judged and copied, and the rest decides. Assumes
-- nothing.
use Rattle.column_reader.proofs.ColumnTurns.{Turn}
use Rattle.column_reader.proofs.judge.Given as goal

abbrev pub invariant-loop-i : goal.invariant-loop-i
invariant-loop-i l = Turn l.columns l.copy l.i
