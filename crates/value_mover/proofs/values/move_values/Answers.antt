use native.Mathlib.Omega.{arith}
use borrow.Author.Rules.{part_to_end}
use lib.ListN.{get_or}
use Rattle.fixed_decoder.proofs.ByteKinds.{wide_bytes}
use Rattle.cursors.proofs.Moving.{move_readable, move_end}
use Rattle.value_mover.proofs.WordTurns.{turn_there, turn_room, turn_more}
use Rattle.value_mover.proofs.values.move_values.Goals as goal

pub slice_bounds-decode-count : goal.slice_bounds-decode-count
slice_bounds-decode-count c =
    let w = wide_bytes c.args.column.kind c.requires.kind_value in
    let there = turn_there c.loop-cursor.invariant (omega arith) w.k w.says (λ i. (c.type_inv.rows i).fits) c.requires.readable in
    omega (arith, there)

pub slice_bounds-decode-start : goal.slice_bounds-decode-start
slice_bounds-decode-start c =
    let w = wide_bytes c.args.column.kind c.requires.kind_value in
    let there = turn_there c.loop-cursor.invariant (omega arith) w.k w.says (λ i. (c.type_inv.rows i).fits) c.requires.readable in
    omega (arith, there)

pub decode-requires-clause-good : goal.decode-requires-clause-good
decode-requires-clause-good c =
    rw (part_to_end c.args.rows.now (get_or c.loop-cursor.cursors c.loop-cursor.cursor-index 0))
    (move_readable c.loop-cursor.invariant (omega arith) c.requires.readable)

pub decode-requires-clause-kind_in_bounds : goal.decode-requires-clause-kind_in_bounds
decode-requires-clause-kind_in_bounds c =
    let w = wide_bytes c.args.column.kind c.requires.kind_value in
    turn_room c.loop-cursor.invariant (omega arith) w.k w.says (λ i. (c.type_inv.rows i).fits) c.requires.readable c.requires.cursors_in_bounds

pub overflow_add-place : goal.overflow_add-place
overflow_add-place c =
    let w = wide_bytes c.args.column.kind c.requires.kind_value in
    let room = turn_room c.loop-cursor.invariant (omega arith) w.k w.says (λ i. (c.type_inv.rows i).fits) c.requires.readable c.requires.cursors_in_bounds in
    omega (arith, room, c.loop-cursor.invariant.wrote.1.same)

pub loop-cursor-preserved : goal.loop-cursor-preserved
loop-cursor-preserved c =
    let w = wide_bytes c.args.column.kind c.requires.kind_value in
    rw (rw (part_to_end c.args.rows.now (get_or c.loop-cursor.cursors c.loop-cursor.cursor-index 0)) at c.decode.ensures)
    (turn_more c.loop-cursor.invariant (omega arith) w.k w.says (λ i. (c.type_inv.rows i).fits) c.requires.readable c.width-w.result c.width-w.ensures)

pub returns-clause-wrote : goal.returns-clause-wrote
returns-clause-wrote c =
    (move_end c.loop-cursor.invariant (omega arith)).0
