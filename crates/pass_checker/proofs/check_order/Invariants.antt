-- `pass_checker::check_order` meets its contract. The loop's invariant: the rows from the one before r on are out of order where all of
-- them are. Assumes nothing.
use Prim.Native.Nat.{◌-◌}
use Rattle.format.specs.Entries.{row_bytes}
use Rattle.pass_checker.proofs.Passes.{Orders}
use Rattle.pass_checker.proofs.check_order.Given as goal

abbrev pub invariant-loop-r : goal.invariant-loop-r
invariant-loop-r l = Orders l.pass l.n (row_bytes l.rows l.offsets) (l.r - 1)
