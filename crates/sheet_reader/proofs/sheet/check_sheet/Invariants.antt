-- `sheet_reader::sheet::check_sheet` meets its contract. The invariant: the columns so far pass, their facts and nulls are kept, and
-- the next one stands where they end. Assumes nothing.
use Rattle.sheet_reader.proofs.SheetTurns.{Turn}
use Rattle.sheet_reader.proofs.sheet.check_sheet.Given as goal

abbrev pub invariant-loop-c : goal.invariant-loop-c
invariant-loop-c l = Turn l.n l.column-items l.sheet l.facts l.nulls l.at l.c
