-- `local_numbers::with_some_of` meets its contract: the array is not too large. Assumes nothing.
use Rattle.std.proofs.Common.{arith, ◌+◌, ◌*◌}
use Rattle.std.proofs.lemmas.Nat.{mul-le}
use Rattle.format.specs.Limits.{max_rows}
use Rattle.local_numbers.proofs.with_some_of.Goals as goal

pub whole_as_front-run : goal.whole_as_front-run
whole_as_front-run g c = (c.requires.k_in_bounds, omega (arith, mul-le g.row.N _ (4 * max_rows + 2) 8 c.requires.size c.requires.width))
