-- `sheet_measurer::measure_sheet` meets its contract. The invariant: the columns so far are added up, by their facts. Assumes
-- nothing.
use Prim.Native.Nat.{◌*◌, ◌≤◌}
use lib.ListN.{length}
use Rattle.format.specs.Limits.{max_rows}
use Rattle.format.specs.Field.{max_field}
use Rattle.basics.proofs.Lists.{Adding}
use Rattle.sheet_measurer.proofs.Totals.{facts_total}
use Rattle.sheet_measurer.proofs.measure_sheet.Given as goal

abbrev pub invariant-loop-f : goal.invariant-loop-f
invariant-loop-f l =
    Adding (facts_total l.n l.sheet l.facts) (length l.facts) l.f-index l.total × (l.total ≤ l.f-index * (max_rows * max_field))
