-- `quick_rows::pass_rows` meets its contract. At the head of the loop over columns what is left of the row has the row's fault, where all
-- was good; at the head of the loop over rows the rows that are left have the fault of all; so too what is still to count. Assumes nothing.
use lib.ListN.{take}
use Rattle.format.specs.Entries.{row_bytes}
use Rattle.quick_rows.specs.Quick.{Rows}
use Rattle.quick_rows.proofs.Turns.{Ready, Walking}
use Rattle.quick_rows.proofs.pass_rows.Given as goal

abbrev pub invariant-loop-c : goal.invariant-loop-c
invariant-loop-c l =
    Walking l.columns l.count l.row l.plain l.good l.more l.at l.c

abbrev pub invariant-loop-r : goal.invariant-loop-r
invariant-loop-r l =
    Rows (take l.count l.columns) (row_bytes l.rows l.offsets) l.n l.bytes l.r × Ready l.columns l.count l.plain
