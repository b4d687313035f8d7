-- `texts::put_rows` meets its contract. The invariant: the lines of the rows passed are written. Assumes nothing.
use Rattle.texts.proofs.Rows.{Lined}
use Rattle.texts.proofs.put_rows.Given as goal

abbrev pub invariant-loop-i : goal.invariant-loop-i
invariant-loop-i l = Lined l.n l.rows l.offsets l.initial.out l.out l.at l.i
