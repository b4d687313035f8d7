-- `bits::first_clear` meets its contract. The invariant: the first clear row is the same from the next row on. Assumes
-- nothing.
use Prim.Native.Nat.{◌-◌}
use mathlib.Core.Path.{◌≡◌}
use Rattle.format.specs.Sheet.{first_clear}
use Rattle.bits.proofs.first_clear.Given as goal

abbrev pub invariant-loop-row : goal.invariant-loop-row
invariant-loop-row l = first_clear l.s l.row (l.n - l.row) ≡ first_clear l.s 0 l.n
