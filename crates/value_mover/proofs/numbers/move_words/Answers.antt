use native.Mathlib.Omega.{arith}
use borrow.Author.Rules.{part_to_end}
use lib.ListN.{get_or}
use Rattle.fixed_decoder.specs.Worded.{worded}
use Rattle.cursors.proofs.Moving.{move_readable, move_end}
use Rattle.value_mover.proofs.WordTurns.{worded_shape, word_good, word_bytes, word_slot, word_there, word_room, turn_more}
use Rattle.value_mover.proofs.numbers.move_words.Goals as goal

pub slice_bounds-slot-count : goal.slice_bounds-slot-count
slice_bounds-slot-count c =
    let there = word_there c.args.coding c.args.width c.args.options c.loop-cursor.invariant (omega arith) c.requires.worded
    (λ i. (c.type_inv.rows i).fits) c.requires.readable in
    omega (arith, there)

pub slice_bounds-slot-start : goal.slice_bounds-slot-start
slice_bounds-slot-start c =
    let there = word_there c.args.coding c.args.width c.args.options c.loop-cursor.invariant (omega arith) c.requires.worded
    (λ i. (c.type_inv.rows i).fits) c.requires.readable in
    omega (arith, there)

pub slot-requires-clause-good : goal.slot-requires-clause-good
slot-requires-clause-good c =
    let A = c.args in
    let p = get_or c.loop-cursor.cursors c.loop-cursor.cursor-index 0 in
    rw (part_to_end A.rows.now p)
    (word_good A.coding A.width A.options A.rows.now p c.requires.worded (move_readable c.loop-cursor.invariant (omega arith) c.requires.readable))

pub slot-requires-clause-width_in_bounds : goal.slot-requires-clause-width_in_bounds
slot-requires-clause-width_in_bounds c =
    word_room c.args.coding c.args.width c.args.options c.loop-cursor.invariant (omega arith) c.requires.worded
    (λ i. (c.type_inv.rows i).fits) c.requires.readable c.requires.cursors_in_bounds

pub overflow_add-place : goal.overflow_add-place
overflow_add-place c =
    let room = word_room c.args.coding c.args.width c.args.options c.loop-cursor.invariant (omega arith) c.requires.worded
    (λ i. (c.type_inv.rows i).fits) c.requires.readable c.requires.cursors_in_bounds in
    omega (arith, room, c.loop-cursor.invariant.wrote.1.same)

pub loop-cursor-preserved : goal.loop-cursor-preserved
loop-cursor-preserved c =
    let A = c.args in
    let p = get_or c.loop-cursor.cursors c.loop-cursor.cursor-index 0 in
    let w = c.requires.worded in
    rw (rw (part_to_end A.rows.now p) at c.slot.ensures)
    (rw (word_slot A.coding A.width A.options A.rows.now p w)
    (turn_more c.loop-cursor.invariant (omega arith) (worded A.coding A.width) (worded_shape A.coding A.width w) (λ i. (c.type_inv.rows i).fits)
    c.requires.readable A.width (word_bytes A.coding A.width A.options A.rows.now p w)))

pub returns-clause-wrote : goal.returns-clause-wrote
returns-clause-wrote c = (move_end c.loop-cursor.invariant (omega arith)).0
