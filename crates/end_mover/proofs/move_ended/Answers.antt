use Prim.Native.Nat.{ℕ, ◌+◌}
use mathlib.Core.Path.{ap}
use native.Mathlib.Omega.{arith}
use borrow.Author.Rules.{part_to_end}
use lib.ListN.{get_or}
use Rattle.cursors.proofs.Moving.{move_readable}
use Rattle.end_mover.proofs.OnePass.{end_room, row_there, value_room, value_short, ended_more, ended_end}
use Rattle.end_mover.proofs.move_ended.Goals as goal

pub put-requires : goal.put-requires
put-requires c = end_room c.loop-cursor.invariant c.requires.cursors_in_bounds

pub slice_bounds-decode_blocks-count : goal.slice_bounds-decode_blocks-count
slice_bounds-decode_blocks-count c = omega (arith, row_there c.loop-cursor.invariant (omega arith) c.requires.readable)

pub slice_bounds-decode_blocks-start : goal.slice_bounds-decode_blocks-start
slice_bounds-decode_blocks-start c = omega (arith, row_there c.loop-cursor.invariant (omega arith) c.requires.readable)

pub decode_blocks-copied-requires-clause-good : goal.decode_blocks-copied-requires-clause-good
decode_blocks-copied-requires-clause-good c =
    rw (part_to_end c.args.rows.now (get_or c.loop-cursor.cursors c.loop-cursor.cursor-index 0))
    (move_readable c.loop-cursor.invariant.copied (omega arith) c.requires.readable)

pub decode_blocks-copied-requires-clause-row_in_bounds : goal.decode_blocks-copied-requires-clause-row_in_bounds
decode_blocks-copied-requires-clause-row_in_bounds c =
    rw (part_to_end c.args.rows.now (get_or c.loop-cursor.cursors c.loop-cursor.cursor-index 0))
    (omega (arith, value_room c.loop-cursor.invariant (omega arith) c.requires.cursors_in_bounds, c.put.auto.out))

pub overflow_add-total : goal.overflow_add-total
overflow_add-total c =
    let p = get_or c.loop-cursor.cursors c.loop-cursor.cursor-index 0 in
    let value = rw (part_to_end c.args.rows.now p) at c.decode_blocks-copied.ensures.value_value in
    omega (
      arith,
      value,
      value_short c.args.options c.args.rows.now (λ i. (c.type_inv.rows i).fits) p,
      c.loop-cursor.invariant.ends.small,
      c.loop-cursor.invariant.ends.within,
    )

pub loop-cursor-preserved : goal.loop-cursor-preserved
loop-cursor-preserved c =
    let A = c.args in
    let p = get_or c.loop-cursor.cursors c.loop-cursor.cursor-index 0 in
    let d = c.decode_blocks-copied in
    let here = part_to_end A.rows.now p in
    let value = rw here at d.ensures.value_value in
    rw (rw here at d.ensures.out_after)
    (rw c.put.ensures
    (ended_more c.loop-cursor.invariant (omega arith) d.result.value (p + d.result.field) value
    (omega (arith, value, value_short A.options A.rows.now (λ i. (c.type_inv.rows i).fits) p))
    (ap (λ (n : ℕ). p + n) (rw here at d.ensures.field_value))))

pub returns-clause-wrote : goal.returns-clause-wrote
returns-clause-wrote c = rw c.put-2.ensures (ended_end c.loop-cursor.invariant (omega arith)).0
