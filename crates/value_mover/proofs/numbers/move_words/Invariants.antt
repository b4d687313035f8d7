-- `value_mover::numbers::move_words` meets its contract. The invariant: the values of the rows passed are stored, and their cursors
-- moved. Assumes nothing.
use Rattle.format.specs.Kinds.{value_bytes}
use Rattle.format.specs.Cleared.{fixed_slot}
use Rattle.cursors.proofs.Moving.{Moving}
use Rattle.value_mover.specs.WordKinds.{word_column, word_kind}
use Rattle.value_mover.proofs.numbers.move_words.Given as goal

abbrev pub invariant-loop-cursor : goal.invariant-loop-cursor
invariant-loop-cursor l =
    Moving (word_column l.coding l.width l.options) l.rows (fixed_slot (value_bytes (word_kind l.coding l.width)))
    l.initial.cursors l.initial.sheet l.at l.cursors l.sheet l.place l.cursor-index
