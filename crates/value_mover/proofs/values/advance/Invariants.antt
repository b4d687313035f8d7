-- `value_mover::values::advance` meets its contract. The invariant: the cursors of the rows passed are moved on.
-- Assumes nothing.
use Prim.Native.Nat.{◌+◌}
use mathlib.Core.List.{map}
use Rattle.cursors.proofs.Moving.{Filled}
use Rattle.value_mover.proofs.values.advance.Given as goal

abbrev pub invariant-loop-cursor : goal.invariant-loop-cursor
invariant-loop-cursor l = Filled (map (λ p. p + l.by) l.initial.cursors) l.initial.cursors l.cursors l.cursor-index
