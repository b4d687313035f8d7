-- `row_reader::check_fields` meets its contract. At the head of the loop over columns what is left of the row has the row's
-- fault, at the head of the loop over rows the rows that are left have the fault of all; so too what is still to count.
-- Assumes nothing.
use mathlib.Core.Path.{◌≡◌}
use lib.ListN.{take}
use Rattle.std.specs.declared.result.Result.TheVariants.{Ok}
use Rattle.format.specs.Entries.{row_bytes}
use Rattle.quick_rows.specs.Quick.{Rows}
use Rattle.quick_rows.proofs.Turns.{Fields}
use Rattle.row_reader.proofs.walk.check_fields.Given as goal

abbrev pub invariant-loop-c : goal.invariant-loop-c
invariant-loop-c l =
    (l.check ≡ Ok tt) × Fields (take l.count l.columns) l.row l.initial.bytes l.bytes l.at l.c

abbrev pub invariant-rows : goal.invariant-rows
invariant-rows l = (l.check ≡ Ok tt) × Rows (take l.count l.columns) (row_bytes l.rows l.offsets) l.n l.bytes l.r
