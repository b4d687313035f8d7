-- `value_mover::values::move_values` meets its contract. The invariant: the values of the rows passed are written, and
-- their cursors moved. Assumes nothing.
use Rattle.format.specs.Kinds.{value_bytes}
use Rattle.format.specs.Cleared.{fixed_slot}
use Rattle.cursors.proofs.Moving.{Moving}
use Rattle.value_mover.proofs.values.move_values.Given as goal

abbrev pub invariant-loop-cursor : goal.invariant-loop-cursor
invariant-loop-cursor l =
    Moving (record { kind = l.kind; options = l.options }) l.rows (fixed_slot (value_bytes l.kind))
    l.initial.cursors l.initial.sheet l.at l.cursors l.sheet l.place l.cursor-index
